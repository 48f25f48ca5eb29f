-- What the slice gives back is what the rounds made of it.
use Rattle.std.proofs.Common.{◌≡◌, ◌++◌, ◌∙◌, ℕ, List, length, sym, subst}
use Rattle.std.proofs.Math.ListN.{drop, take}
use Rattle.std.proofs.Math.Seq.{take-append_seam}
use Rattle.nm_world.specs.declared.players.Player.{Player}
use Rattle.nm_world.specs.Players.{AllPlayOn}
use Rattle.nm_world.specs.Runs.{AreAtRest}
use Rattle.nm_world.proofs.Runs.{kept_many}
use Rattle.nm_world.proofs.whole.settle_all.Goals as goal

front : {A : Type 0} (n : ℕ) (xs ys : List A) → length xs ≡ n → take n (xs ++ ys) ≡ xs
front n xs ys long = subst (λ (k : ℕ). take k (xs ++ ys) ≡ xs) long (take-append_seam xs ys)

pub returns-clause-rest : goal.returns-clause-rest
returns-clause-rest g c =
    let shows = g.S.Source.shows in
    let gives = g.S.Source.gives in
    let players = c.settle.new.players in
    let long = kept_many shows gives c.args.f.now c.args.r.now c.as_mut_slice.result.now players
    c.in_ok-settle.ensures.kept ∙ c.as_mut_slice.ensures.len in
    subst (λ (xs : List (Player _ _)). AreAtRest shows gives xs)
    (sym (front c.args.players.now.len players (drop (length players) c.args.players.now.items) long))
    c.in_ok-settle.ensures.rest

pub returns-clause-kept : goal.returns-clause-kept
returns-clause-kept g c =
    let shows = g.S.Source.shows in
    let gives = g.S.Source.gives in
    let players = c.settle.new.players in
    let long = kept_many shows gives c.args.f.now c.args.r.now c.as_mut_slice.result.now players
    c.in_ok-settle.ensures.kept ∙ c.as_mut_slice.ensures.len in
    subst (λ (xs : List (Player _ _)). AllPlayOn shows gives c.args.f.now c.args.r.now c.args.players.now.items xs)
    (sym (front c.args.players.now.len players (drop (length players) c.args.players.now.items) long))
    (subst (λ (xs : List (Player _ _)). AllPlayOn shows gives c.args.f.now c.args.r.now xs players)
    c.as_mut_slice.ensures.value c.in_ok-settle.ensures.kept)
