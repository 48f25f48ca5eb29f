-- The fault of a line's words is the first rule that they break.
use Rattle.std.proofs.Common.{◌≡◌, ℕ, ◌+◌, ◌-◌, ◌*◌, ◌≤◌, ◌<◌, ◌^◌, inl, inr, Bool, true, false}
use Rattle.std.proofs.Common.{◌&&◌, get_or, take, nat_lt, subst}
use Rattle.std.proofs.Common.{List, [], ◌∷◌, length, Option, Some, None, Result, Ok, Err}
use Rattle.std.proofs.Common.{refl, sym, ap, ◌∙◌, arith, eqb, codes, nat_le}
use Rattle.std.specs.List.{list_all}
use Rattle.std.specs.Option.{ok_or}
use Rattle.std.specs.Str.{bytes_eq}
use Rattle.hex.specs.Hex.{decode_of}
use Rattle.hex.specs.declared.error.FromHexError.{FromHexError}
use Rattle.nm_types.specs.declared.limits.TheConstants.{MAX_RANKS, MAX_NAME, MAX_TAG, MAX_CONTEXT}
use Rattle.nm_types.specs.declared.limits.TheConstants.{MAX_CAPACITY, MAX_BODY}
use Rattle.nm_types.specs.declared.messages.Peer.TheVariants as peer
use Rattle.nm_types.specs.declared.messages.TagPick.TheVariants as pick
use Rattle.nm_types.specs.declared.scripts.Command.TheVariants.{Wait, Test, Probe, Await, Cancel}
use Rattle.nm_script.specs.declared.commands.Selection.{Selection}
use Rattle.nm_script.specs.declared.faults.Kind.{Kind}
use Rattle.nm_script.specs.declared.faults.Kind.TheVariants as kind
use Rattle.nm_script.specs.declared.keywords.Keyword.{Keyword}
use Rattle.nm_script.specs.declared.keywords.Keyword.TheVariants as key
use Rattle.nm_script.specs.Arguments.{arguments, Each, IsBelow, IsBody, IsBodyThere, IsSpelled, IsUpTo}
use Rattle.nm_script.specs.Arguments.{Argument}
use Rattle.nm_script.specs.Arguments.Argument.{Name, Destination, Source, Tag, TagChoice, Context, Contents}
use Rattle.nm_script.specs.Bodies.{hex_body, hex_of, generated_body, generated_of, body_of}
use Rattle.nm_script.specs.Commands.{rank_of, argument_of, name_of, peer_of, pick_of, selection_of}
use Rattle.nm_script.specs.Commands.{send_with, send_of, recv_with, recv_of, lone_of, probe_of}
use Rattle.nm_script.specs.Commands.{mprobe_with, mprobe_of, mrecv_with, mrecv_of, arguments_of}
use Rattle.nm_script.specs.Commands.{command_of, line_of}
use Rattle.nm_script.specs.Digits.{is_lower_digit}
use Rattle.nm_script.specs.Decimal.{number_of}
use Rattle.nm_script.specs.Keywords.{keyword_of, keyword_text}
use Rattle.nm_script.specs.Rules.{HasRank, KeepsRule}
use Rattle.nm_script.specs.TextRules.{IsFirstOf}
use Rattle.nm_script.proofs.BodyLemmas.{body_again}
use Rattle.nm_script.proofs.CommandLemmas.{argument_again, peer_again}
use Rattle.nm_script.proofs.CommandTakenLemmas.{argument_taken}
use Rattle.nm_script.proofs.CommandLemmas.{pick_again, rank_again}
use Rattle.nm_script.proofs.CommandTakenLemmas.{peer_taken, pick_taken, rank_taken}
use Rattle.nm_script.proofs.KeywordLemmas.{keyword_taken, keyword_again}
use Rattle.nm_script.proofs.StepLemmas.{bind_err, err_or, found_in, only_first}
use Rattle.nm_script.proofs.WordsStepLemmas.{bind_ok, chosen}

-- ---- words that are refused

-- a number that is taken is spelled
up_to : (most n : ℕ) (word : List ℕ) → most < 2 ^ 63 → argument_of (most + 1) word ≡ Ok n
    → IsUpTo most word
up_to most n word small h =
    let w = argument_taken (most + 1) n word (omega arith) h in
    (n, omega (arith, w.0), w.1)

argument_refused : (limit : ℕ) (word : List ℕ) (e : Kind) → limit ≤ 2 ^ 64
    → argument_of limit word ≡ Err e → (e ≡ kind.Number) × ¬ (IsBelow limit word)
unfolding argument_of
argument_refused limit word e small h = (
  (err_or (number_of limit word) kind.Number e h).1,
  λ is.
      let same : argument_of limit word ≡ Ok is.0 = ap (argument_of limit) is.2
      ∙ argument_again limit is.0 small is.1 in
      cc (same, h),
)

word_refused : (most : ℕ) (word : List ℕ) (e : Kind) → most < 2 ^ 63
    → argument_of (most + 1) word ≡ Err e → (e ≡ kind.Number) × ¬ (IsUpTo most word)
word_refused most word e small h =
    let p = argument_refused (most + 1) word e (omega arith) h in
    (p.0, λ is. p.1 (is.0, omega (arith, is.1), is.2))

peer_refused : (ranks : ℕ) (word : List ℕ) (e : Kind) → ranks ≤ MAX_RANKS
    → peer_of ranks word ≡ Err e → (e ≡ kind.Number) × ¬ (IsSpelled ranks Source word)
unfolding peer_of
peer_refused ranks word e few h =
    let no : ¬ (IsSpelled ranks Source word) = λ is.
    let same : peer_of ranks word ≡ Ok is.0 = ap (peer_of ranks) is.2
    ∙ peer_again ranks is.0 few is.1 in cc (same, h) in
    elim (chosen (bytes_eq word (codes "any")) (Ok peer.Any) _ (Err e) h) [
      | inl p ↦ cc (p.1)
      | inr p ↦ elim (bind_err (argument_of ranks word) _ e p.1) [
        | inl q ↦ ((argument_refused ranks word e (omega arith) q).0, no)
        | inr q ↦ cc (q.2)
      ]
    ]

pick_refused : (ranks : ℕ) (word : List ℕ) (e : Kind)
    → pick_of word ≡ Err e → (e ≡ kind.Number) × ¬ (IsSpelled ranks TagChoice word)
unfolding pick_of
pick_refused ranks word e h =
    let no : ¬ (IsSpelled ranks TagChoice word) = λ is.
    let same : pick_of word ≡ Ok is.0 = ap pick_of is.2 ∙ pick_again is.0 is.1 in cc (same, h) in
    elim (chosen (bytes_eq word (codes "any")) (Ok pick.Any) _ (Err e) h) [
      | inl p ↦ cc (p.1)
      | inr p ↦ elim (bind_err (argument_of (MAX_TAG + 1) word) _ e p.1) [
        | inl q ↦ ((argument_refused (MAX_TAG + 1) word e (omega arith) q).0, no)
        | inr q ↦ cc (q.2)
      ]
    ]

-- the source, the tag and the context
Selected : ℕ → List ℕ → List ℕ → List ℕ → Type 0
Selected ranks from tag ctx =
    IsSpelled ranks Source from × IsSpelled ranks TagChoice tag × IsSpelled ranks Context ctx

selection_refused : (ranks : ℕ) (from tag ctx : List ℕ) (e : Kind) → ranks ≤ MAX_RANKS
    → selection_of ranks from tag ctx ≡ Err e → (e ≡ kind.Number) × ¬ (Selected ranks from tag ctx)
unfolding selection_of Selected
selection_refused ranks from tag ctx e few h =
    elim (bind_err (peer_of ranks from) _ e h) [
      | inl f ↦ let r = peer_refused ranks from e few f in (r.0, λ all. r.1 all.0)
      | inr f ↦ elim (bind_err (pick_of tag) _ e f.2) [
        | inl t ↦ let r = pick_refused ranks tag e t in (r.0, λ all. r.1 all.1)
        | inr t ↦ elim (bind_err (argument_of (MAX_CONTEXT + 1) ctx) _ e t.2) [
          | inl c ↦ let r = word_refused MAX_CONTEXT ctx e (omega arith) c in (r.0, λ all. r.1 all.2)
          | inr c ↦ cc (c.2)
        ]
      ]
    ]

selected : (ranks : ℕ) (from tag ctx : List ℕ) (s : Selection) → ranks ≤ MAX_RANKS
    → selection_of ranks from tag ctx ≡ Ok s → Selected ranks from tag ctx
unfolding selection_of Selected
selected ranks from tag ctx s few h =
    let f = bind_ok (peer_of ranks from) _ s h in
    let t = bind_ok (pick_of tag) _ s f.2 in
    let c = bind_ok (argument_of (MAX_CONTEXT + 1) ctx) _ s t.2 in
    let fw = peer_taken ranks f.0 from (omega arith) f.1 in
    let tw = pick_taken t.0 tag t.1 in
    ((f.0, fw.1, fw.0), (t.0, tw.1, tw.0), up_to MAX_CONTEXT c.0 ctx (omega arith) c.1)

body_kind : (r : Result (List ℕ) FromHexError) (e : Kind) → hex_body r ≡ Err e → e ≡ kind.Body
body_kind (Ok bytes) e h = cc
body_kind (Err d) e h = cc

generated_kind : (o : Option ℕ) (e : Kind) → generated_body o ≡ Err e → e ≡ kind.Body
generated_kind (Some n) e h = cc
generated_kind None e h = cc

body_refused_kind : (word : List ℕ) (e : Kind) → body_of word ≡ Err e → e ≡ kind.Body
unfolding body_of hex_of generated_of
body_refused_kind [] e h = cc
body_refused_kind (b ∷ rest) e h =
    elim (chosen (eqb b 120) (hex_of rest) _ (Err e) h) [
      | inl p ↦ elim (chosen (nat_le (length rest) (2 * MAX_BODY) && list_all is_lower_digit rest)
          (hex_body (decode_of rest)) (Err kind.Body) (Err e) p.1) [
            | inl q ↦ body_kind (decode_of rest) e q.1
            | inr q ↦ cc (q.1)
          ]
      | inr p ↦ elim (chosen (eqb b 103) (generated_of rest) (Err kind.Body) (Err e) p.1) [
        | inl q ↦ generated_kind (number_of (MAX_BODY + 1) rest) e q.1
        | inr q ↦ cc (q.1)
      ]
    ]

body_refused : (word : List ℕ) (e : Kind) → body_of word ≡ Err e → (e ≡ kind.Body) × ¬ (IsBody word)
body_refused word e h = (
  body_refused_kind word e h,
  λ is.
      let same : body_of word ≡ Ok is.0 = ap body_of is.3 ∙ body_again is.0 is.1 is.2 in
      cc (same, h),
)

-- ---- the arguments of a command

-- the rules of words that should be these arguments
abbrev Kept : ℕ → List Argument → List (List ℕ) → Kind → Type 0
Kept ranks sorts ws kind.Count = length ws ≡ length sorts
Kept ranks sorts ws kind.Number = Each (IsSpelled ranks) sorts ws
Kept ranks sorts ws kind.Body = Each IsBodyThere sorts ws
Kept ranks sorts ws _ = Unit {0}

abbrev Faulty : ℕ → List Argument → List (List ℕ) → Kind → Type 0
Faulty ranks sorts ws e = IsFirstOf (Kept ranks sorts ws) (kind.Count ∷ kind.Number ∷ kind.Body ∷ []) e

abbrev send_arguments : List Argument
send_arguments = Name ∷ Destination ∷ Tag ∷ Context ∷ Contents ∷ []

send_with_fault : (ranks : ℕ) (sync : Bool) (name to tag ctx body : List ℕ) (e : Kind) → ranks ≤ MAX_RANKS
    → send_with ranks sync name to tag ctx body ≡ Err e
    → Faulty ranks send_arguments (name ∷ to ∷ tag ∷ ctx ∷ body ∷ []) e
unfolding send_with name_of
send_with_fault ranks sync name to tag ctx body e few h =
    elim (bind_err (argument_of (MAX_NAME + 1) name) _ e h) [
      | inl f ↦
          let r = word_refused MAX_NAME name e (omega arith) f in
          inr (refl, inl (r.0, λ all. r.1 all.0))
      | inr q ↦ elim (bind_err (argument_of ranks to) _ e q.2) [
        | inl f ↦
            let r = argument_refused ranks to e (omega arith) f in
            inr (refl, inl (r.0, λ all. r.1 all.1.0))
        | inr d ↦ elim (bind_err (argument_of (MAX_TAG + 1) tag) _ e d.2) [
          | inl f ↦
              let r = word_refused MAX_TAG tag e (omega arith) f in
              inr (refl, inl (r.0, λ all. r.1 all.1.1.0))
          | inr t ↦ elim (bind_err (argument_of (MAX_CONTEXT + 1) ctx) _ e t.2) [
            | inl f ↦
                let r = word_refused MAX_CONTEXT ctx e (omega arith) f in
                inr (refl, inl (r.0, λ all. r.1 all.1.1.1.0))
            | inr c ↦ elim (bind_err (body_of body) _ e c.2) [
              | inl f ↦
                  let r = body_refused body e f in
                  let dw = argument_taken ranks d.0 to (omega arith) d.1 in
                  inr (
                    refl,
                    inr (
                      (
                        up_to MAX_NAME q.0 name (omega arith) q.1,
                        (
                          (d.0, dw.0, dw.1),
                          (
                            up_to MAX_TAG t.0 tag (omega arith) t.1,
                            (up_to MAX_CONTEXT c.0 ctx (omega arith) c.1, (tt, tt)),
                          ),
                        ),
                      ),
                      inl (r.0, λ all. r.1 all.1.1.1.1.0),
                    ),
                  )
              | inr b ↦ cc (b.2)
            ]
          ]
        ]
      ]
    ]

send_fault : (ranks : ℕ) (sync : Bool) (ws : List (List ℕ)) (e : Kind) → ranks ≤ MAX_RANKS
    → send_of ranks sync ws ≡ Err e → Faulty ranks send_arguments ws e
unfolding send_of
send_fault ranks sync [] e few h = inl (cc, λ n. omega (arith, n))
send_fault ranks sync (name ∷ []) e few h = inl (cc, λ n. omega (arith, n))
send_fault ranks sync (name ∷ to ∷ []) e few h = inl (cc, λ n. omega (arith, n))
send_fault ranks sync (name ∷ to ∷ tag ∷ []) e few h = inl (cc, λ n. omega (arith, n))
send_fault ranks sync (name ∷ to ∷ tag ∷ ctx ∷ []) e few h = inl (cc, λ n. omega (arith, n))
send_fault ranks sync (name ∷ to ∷ tag ∷ ctx ∷ body ∷ []) e few h = send_with_fault ranks sync name to
    tag ctx body e few h
send_fault ranks sync (name ∷ to ∷ tag ∷ ctx ∷ body ∷ x ∷ more) e few h = inl
    (cc, λ n. omega (arith, n))

recv_with_fault : (ranks : ℕ) (name from tag ctx cap : List ℕ) (e : Kind) → ranks ≤ MAX_RANKS
    → recv_with ranks name from tag ctx cap ≡ Err e
    → Faulty ranks (arguments key.Irecv) (name ∷ from ∷ tag ∷ ctx ∷ cap ∷ []) e
unfolding recv_with name_of Selected
recv_with_fault ranks name from tag ctx cap e few h =
    elim (bind_err (argument_of (MAX_NAME + 1) name) _ e h) [
      | inl f ↦
          let r = word_refused MAX_NAME name e (omega arith) f in
          inr (refl, inl (r.0, λ all. r.1 all.0))
      | inr q ↦ elim (bind_err (selection_of ranks from tag ctx) _ e q.2) [
        | inl f ↦
            let r = selection_refused ranks from tag ctx e few f in
            inr (refl, inl (r.0, λ all. r.1 (all.1.0, all.1.1.0, all.1.1.1.0)))
        | inr s ↦ elim (bind_err (argument_of (MAX_CAPACITY + 1) cap) _ e s.2) [
          | inl f ↦
              let r = word_refused MAX_CAPACITY cap e (omega arith) f in
              inr (refl, inl (r.0, λ all. r.1 all.1.1.1.1.0))
          | inr n ↦ cc (n.2)
        ]
      ]
    ]

recv_fault : (ranks : ℕ) (ws : List (List ℕ)) (e : Kind) → ranks ≤ MAX_RANKS
    → recv_of ranks ws ≡ Err e → Faulty ranks (arguments key.Irecv) ws e
unfolding recv_of
recv_fault ranks [] e few h = inl (cc, λ n. omega (arith, n))
recv_fault ranks (name ∷ []) e few h = inl (cc, λ n. omega (arith, n))
recv_fault ranks (name ∷ from ∷ []) e few h = inl (cc, λ n. omega (arith, n))
recv_fault ranks (name ∷ from ∷ tag ∷ []) e few h = inl (cc, λ n. omega (arith, n))
recv_fault ranks (name ∷ from ∷ tag ∷ ctx ∷ []) e few h = inl (cc, λ n. omega (arith, n))
recv_fault ranks (name ∷ from ∷ tag ∷ ctx ∷ cap ∷ []) e few h = recv_with_fault ranks name from tag ctx
    cap e few h
recv_fault ranks (name ∷ from ∷ tag ∷ ctx ∷ cap ∷ x ∷ more) e few h = inl (cc, λ n. omega (arith, n))

lone_fault : (ranks : ℕ) (ws : List (List ℕ)) (e : Kind) → lone_of ws ≡ Err e
    → Faulty ranks (Name ∷ []) ws e
unfolding lone_of name_of
lone_fault ranks [] e h = inl (cc, λ n. omega (arith, n))
lone_fault ranks (name ∷ []) e h =
    let r = word_refused MAX_NAME name e (omega arith) h in
    inr (refl, inl (r.0, λ all. r.1 all.0))
lone_fault ranks (name ∷ x ∷ more) e h = inl (cc, λ n. omega (arith, n))

probe_fault : (ranks : ℕ) (ws : List (List ℕ)) (e : Kind) → ranks ≤ MAX_RANKS
    → probe_of ranks ws ≡ Err e → Faulty ranks (Source ∷ TagChoice ∷ Context ∷ []) ws e
unfolding probe_of Selected
probe_fault ranks [] e few h = inl (cc, λ n. omega (arith, n))
probe_fault ranks (from ∷ []) e few h = inl (cc, λ n. omega (arith, n))
probe_fault ranks (from ∷ tag ∷ []) e few h = inl (cc, λ n. omega (arith, n))
probe_fault ranks (from ∷ tag ∷ ctx ∷ []) e few h =
    let r = selection_refused ranks from tag ctx e few h in
    inr (refl, inl (r.0, λ all. r.1 (all.0, all.1.0, all.1.1.0)))
probe_fault ranks (from ∷ tag ∷ ctx ∷ x ∷ more) e few h = inl (cc, λ n. omega (arith, n))

mprobe_fault : (ranks : ℕ) (ws : List (List ℕ)) (e : Kind) → ranks ≤ MAX_RANKS
    → mprobe_of ranks ws ≡ Err e → Faulty ranks (arguments key.Mprobe) ws e
unfolding mprobe_of mprobe_with name_of Selected
mprobe_fault ranks [] e few h = inl (cc, λ n. omega (arith, n))
mprobe_fault ranks (name ∷ []) e few h = inl (cc, λ n. omega (arith, n))
mprobe_fault ranks (name ∷ from ∷ []) e few h = inl (cc, λ n. omega (arith, n))
mprobe_fault ranks (name ∷ from ∷ tag ∷ []) e few h = inl (cc, λ n. omega (arith, n))
mprobe_fault ranks (name ∷ from ∷ tag ∷ ctx ∷ []) e few h =
    elim (bind_err (argument_of (MAX_NAME + 1) name) _ e h) [
      | inl f ↦
          let r = word_refused MAX_NAME name e (omega arith) f in
          inr (refl, inl (r.0, λ all. r.1 all.0))
      | inr q ↦ elim (bind_err (selection_of ranks from tag ctx) _ e q.2) [
        | inl f ↦
            let r = selection_refused ranks from tag ctx e few f in
            inr (refl, inl (r.0, λ all. r.1 (all.1.0, all.1.1.0, all.1.1.1.0)))
        | inr s ↦ cc (s.2)
      ]
    ]
mprobe_fault ranks (name ∷ from ∷ tag ∷ ctx ∷ x ∷ more) e few h = inl (cc, λ n. omega (arith, n))

mrecv_fault : (ranks : ℕ) (ws : List (List ℕ)) (e : Kind) → mrecv_of ws ≡ Err e
    → Faulty ranks (arguments key.Mrecv) ws e
unfolding mrecv_of mrecv_with name_of
mrecv_fault ranks [] e h = inl (cc, λ n. omega (arith, n))
mrecv_fault ranks (name ∷ []) e h = inl (cc, λ n. omega (arith, n))
mrecv_fault ranks (name ∷ handle ∷ []) e h = inl (cc, λ n. omega (arith, n))
mrecv_fault ranks (name ∷ handle ∷ cap ∷ []) e h =
    elim (bind_err (argument_of (MAX_NAME + 1) name) _ e h) [
      | inl f ↦
          let r = word_refused MAX_NAME name e (omega arith) f in
          inr (refl, inl (r.0, λ all. r.1 all.0))
      | inr q ↦ elim (bind_err (argument_of (MAX_NAME + 1) handle) _ e q.2) [
        | inl f ↦
            let r = word_refused MAX_NAME handle e (omega arith) f in
            inr (refl, inl (r.0, λ all. r.1 all.1.0))
        | inr m ↦ elim (bind_err (argument_of (MAX_CAPACITY + 1) cap) _ e m.2) [
          | inl f ↦
              let r = word_refused MAX_CAPACITY cap e (omega arith) f in
              inr (refl, inl (r.0, λ all. r.1 all.1.1.0))
          | inr n ↦ cc (n.2)
        ]
      ]
    ]
mrecv_fault ranks (name ∷ handle ∷ cap ∷ x ∷ more) e h = inl (cc, λ n. omega (arith, n))

arguments_fault : (ranks : ℕ) (k : Keyword) (ws : List (List ℕ)) (e : Kind) → ranks ≤ MAX_RANKS
    → arguments_of ranks k ws ≡ Err e → Faulty ranks (arguments k) ws e
unfolding arguments_of
arguments_fault ranks key.Isend ws e few h = send_fault ranks false ws e few h
arguments_fault ranks key.Issend ws e few h = send_fault ranks true ws e few h
arguments_fault ranks key.Irecv ws e few h = recv_fault ranks ws e few h
arguments_fault ranks key.Wait ws e few h = lone_fault ranks ws e
    (only_first (lone_of ws) (λ q. Wait q) e h)
arguments_fault ranks key.Test ws e few h = lone_fault ranks ws e
    (only_first (lone_of ws) (λ q. Test q) e h)
arguments_fault ranks key.Probe ws e few h = probe_fault ranks ws e few
    (only_first (probe_of ranks ws) (λ s. Probe s.from s.tag s.ctx) e h)
arguments_fault ranks key.Await ws e few h = probe_fault ranks ws e few
    (only_first (probe_of ranks ws) (λ s. Await s.from s.tag s.ctx) e h)
arguments_fault ranks key.Cancel ws e few h = lone_fault ranks ws e
    (only_first (lone_of ws) (λ q. Cancel q) e h)
arguments_fault ranks key.Mprobe ws e few h = mprobe_fault ranks ws e few h
arguments_fault ranks key.Mrecv ws e few h = mrecv_fault ranks ws e h

-- ---- the words of a line

-- a name is that of one command
pub one_keyword : (j k : Keyword) → keyword_text j ≡ keyword_text k → j ≡ k
one_keyword j k same =
    let found : ◌≡◌ {A = Option Keyword} (Some j) (Some k) = sym (keyword_again j)
    ∙ ap keyword_of same ∙ keyword_again k in
    cc (found)

-- the rules of the words behind a rank, where the name is known
arguments_break : (ranks number total : ℕ) (text first name : List ℕ) (k : Keyword) (ws : List (List ℕ))
    (e : Kind)
    → name ≡ keyword_text k → Faulty ranks (arguments k) ws e
    → IsFirstOf (KeepsRule ranks number total text (first ∷ name ∷ ws)) (kind.Count ∷ kind.Number
    ∷ kind.Body ∷ kind.BodyTotal ∷ []) e
arguments_break ranks number total text first name k ws e word faulty =
    let every : (P : Keyword → Type 0) → P k → (j : Keyword) → name ≡ keyword_text j → P j = λ P holds j named.
    subst P (one_keyword k j (sym word ∙ named)) holds in
    elim faulty [
      | inl f ↦ inl (f.0, λ all. f.1 (all k word))
      | inr c ↦ elim c.1 [
        | inl f ↦ inr (
          every (λ j. length ws ≡ length (arguments j)) c.0,
          inl (f.0, λ all. f.1 (all k word)),
        )
        | inr n ↦ elim n.1 [
          | inl f ↦ inr (
            every (λ j. length ws ≡ length (arguments j)) c.0,
            inr (
              every (λ j. Each (IsSpelled ranks) (arguments j) ws) n.0,
              inl (f.0, λ all. f.1 (all k word)),
            ),
          )
          | inr b ↦ absurd b.1
        ]
      ]
    ]

rank_refused : (ranks : ℕ) (first : List ℕ) (ws : List (List ℕ)) (e : Kind) → ranks ≤ MAX_RANKS
    → rank_of ranks first ≡ Err e → (e ≡ kind.Rank) × ¬ (HasRank ranks (first ∷ ws))
unfolding rank_of
rank_refused ranks first ws e few h =
    let no : ¬ (HasRank ranks (first ∷ ws)) = λ is.
    let same : rank_of ranks first ≡ Ok is.0 = ap (rank_of ranks) is.2 ∙ rank_again ranks is.0 few is.1 in
    cc (same, h) in
    elim (chosen (nat_lt 0 (length first) && eqb (get_or first (length first - 1) 0) 58)
    (ok_or (number_of ranks (take (length first - 1) first)) kind.Rank) (Err kind.Rank) (Err e) h) [
      | inl p ↦ ((err_or (number_of ranks (take (length first - 1) first)) kind.Rank e p.1).1, no)
      | inr p ↦ (cc (p.1), no)
    ]

-- the first rule that the words of a line break, behind those of its bytes and its place
pub words_fault : (ranks number total : ℕ) (text : List ℕ) (ws : List (List ℕ)) (e : Kind)
    → ranks ≤ MAX_RANKS → line_of ranks ws ≡ Err e
    → IsFirstOf (KeepsRule ranks number total text ws) (kind.Rank ∷ kind.Command ∷ kind.Count
    ∷ kind.Number ∷ kind.Body ∷ kind.BodyTotal ∷ []) e
unfolding line_of command_of
words_fault ranks number total text [] e few h = inl (cc, λ no. no)
words_fault ranks number total text (first ∷ []) e few h =
    elim (bind_err (rank_of ranks first) _ e h) [
      | inl f ↦ inl (rank_refused ranks first [] e few f)
      | inr r ↦
          let w = rank_taken ranks r.0 first (omega arith) r.1 in
          inr ((r.0, w.1, w.0), inl (cc (r.2), λ no. no.1))
    ]
words_fault ranks number total text (first ∷ name ∷ ws) e few h =
    elim (bind_err (rank_of ranks first) _ e h) [
      | inl f ↦ inl (rank_refused ranks first (name ∷ ws) e few f)
      | inr r ↦
          let w = rank_taken ranks r.0 first (omega arith) r.1 in
          inr (
            (r.0, w.1, w.0),
            elim (bind_err (ok_or (keyword_of name) kind.Command) _ e
                (only_first (command_of ranks name ws) (λ c. record { rank = r.0; command = c }) e r.2)) [
                  | inl f ↦
                      let n = err_or (keyword_of name) kind.Command e f in
                      inl (
                        n.1,
                        λ is. let back = keyword_again is.0 in
                            let same : keyword_of name ≡ Some is.0 = ap keyword_of is.1 ∙ back in
                            cc (same, n.0),
                      )
                  | inr k ↦
                      let word = keyword_taken name k.0 (found_in (keyword_of name) kind.Command k.0 k.1) in
                      inr (
                        (k.0, word),
                        arguments_break ranks number total text first name k.0 ws e word
                            (arguments_fault ranks k.0 ws e few k.2),
                      )
                ],
          )
    ]
