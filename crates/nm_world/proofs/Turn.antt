-- What a turn comes to, from its five parts.
use Rattle.std.proofs.Common.{◌≡◌, ⊎_elim, ℕ, ◌+◌, ◌<◌, List, refl, sym, ap, ◌∙◌, subst, arith}
use Rattle.nm_types.specs.Commands.{Numbered}
use Rattle.nm_cells.specs.declared.port.Fabric.{Fabric}
use Rattle.nm_copyring.specs.declared.port.Rings.{Rings}
use Rattle.nm_rank.specs.Ranks.{IsFresh}
use Rattle.nm_process.specs.Processes.{ProcessView}
use Rattle.nm_world.specs.declared.actors.Actor.{Actor}
use Rattle.nm_world.specs.Actors.{ActorInvariant, Continues, Grows}
use Rattle.nm_world.specs.Idle.{GaveNone, Idle, FirstNotSent, NoPiece, NextNotPushed}
use Rattle.nm_world.specs.Looks.{LookedAround, Polled, PolledBefore, PolledUnlessWorn, looks_in}
use Rattle.nm_world.proofs.Grows.{grows_on, kept_on, port_same}
use Rattle.nm_world.proofs.Idle.{back_within, none_within, piece_within, pieces_within}
use Rattle.nm_world.proofs.Looks.{looks_kept, looks_more, polled_on, polled_within, ranks_same}
use Rattle.nm_types.specs.declared.packets.Packet.{Packet}

-- it sent from a to s, pushed to p, took to t, pulled to u and ran to e
module _ {H : Type 0} (f : Fabric Packet) (r : Rings) (a s p t u e : Actor H) (sent : Continues f r a s)
    (pushed : Continues f r s p) (took : Continues f r p t) (pulled : Continues f r t u)
    (ran : Grows u e) where
  to_p : Continues f r a p
  to_p = kept_on f r a s p sent pushed

  to_t : Continues f r a t
  to_t = kept_on f r a p t to_p took

  to_u : Continues f r a u
  to_u = kept_on f r a t u to_t pulled

  from_t : Grows t e
  from_t = grows_on t u e pulled.grows ran

  from_p : Grows p e
  from_p = grows_on p t e took.grows from_t

  from_s : Grows s e
  from_s = grows_on s p e pushed.grows from_p

  pub turn_idle : (n : ℕ) → n ≡ a.process.rank.sizes.ranks → s.process ≡ a.process → p.process ≡ s.process →
      t.process ≡ p.process → u.process ≡ t.process → e.process ≡ u.process → FirstNotSent a s → NextNotPushed s p →
      GaveNone p.process.rank.sizes.ranks p.port t.port → ((i : ℕ) → i < n → NoPiece t u i) → Idle a e
  turn_idle n ranks sa ps tp ut eu letter piece none pieces =
      let same_p = ps ∙ sa in
      let same_t = tp ∙ same_p in
      let same_u = ut ∙ same_t in
      record {
        process = eu ∙ same_u;
        polled = none_within a.process.rank.sizes.ranks a.port p.port t.port e.port to_p.grows.port
            (subst (λ (v : ProcessView). GaveNone v.rank.sizes.ranks p.port t.port) same_p none) from_t.port;
        letter = back_within a a s e (port_same a.port) refl letter from_s.port;
        piece = piece_within a s p e sent.grows.ring sa piece from_p.ring;
        pieces = λ i low. pieces_within a t u e i to_t.grows.ring same_t (pieces i (omega (arith, low, ranks)))
            ran.ring;
      }

  pub turn_looked : (commands : List Numbered) (last : ℕ) → ActorInvariant commands last a →
      s.process.at ≡ a.process.at → p.process.at ≡ s.process.at →
      t.process.at ≡ p.process.at → u.process.at ≡ t.process.at →
      PolledUnlessWorn p.process.rank.sizes.ranks 1 p t → (¬ IsFresh t.process.rank → u ≡ t) →
      (¬ IsFresh u.process.rank → e ≡ u) → PolledBefore commands u e → LookedAround commands a e
  turn_looked commands last st sa ps tp ut once pulls runs before more is some =
      let looks = looks_in commands more in
      let n = a.process.rank.sizes.ranks in
      let first = looks_kept commands last f r a u st to_u (ut ∙ tp ∙ ps ∙ sa) in
      let all = ap (looks_in commands) is ∙ looks_more commands a.process.rank.events more in
      let later : looks_in commands e.process.rank.events ≡ looks_in commands u.process.rank.events + looks =
      omega (arith, first, all) in
      let here = subst (λ (k : ℕ). Polled k looks u.port e.port) (ranks_same f r a u to_u)
      (before looks later) in
      ⊎_elim
      (λ polled.
      let one = polled_within n 1 a.port p.port t.port u.port to_p.grows.port
      (subst (λ (k : ℕ). Polled k 1 p.port t.port) (ranks_same f r a p to_p) polled) pulled.grows.port in
      let sum : 1 + looks ≡ looks + 1 = omega arith in
      subst (λ (k : ℕ). Polled n k a.port e.port) sum
      (polled_on n 1 looks a.port u.port e.port one here ran.port))
      (λ worn. absurd (none_worn worn)) once where
        none_worn : (¬ IsFresh p.process.rank) × (t ≡ p) → ⊥
        none_worn worn =
            let not_t = subst (λ (x : Actor H). ¬ IsFresh x.process.rank) (sym worn.1) worn.0 in
            let same_u = pulls not_t in
            let not_u = subst (λ (x : Actor H). ¬ IsFresh x.process.rank) (sym same_u) not_t in
            let same : e ≡ u = runs not_u in
            let first = looks_kept commands last f r a u st to_u (ut ∙ tp ∙ ps ∙ sa) in
            let all = ap (looks_in commands) is ∙ looks_more commands a.process.rank.events more in
            let still = ap (λ (x : Actor H). looks_in commands x.process.rank.events) same in
            omega (arith, first, all, still, some)
