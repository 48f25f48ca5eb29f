-- What is said of a plain script and of a flood.
use Rattle.std.proofs.Common.{◌≡◌, ℕ, ◌⊎◌, inl, inr, arith}
use Rattle.nm_cli.proofs.DoneLemmas.{of_done}
use Rattle.nm_cli.proofs.SureEnds.{Laws, determinate_is, flood_is_plain}
use Rattle.nm_cli.proofs.laws.runs_are_reported_alike.Goals as goal

-- want of memory is no end of a run
no_run : {status : ℕ} → status ≡ 6 → (status ≡ 0) ⊎ (status ≡ 1) → ⊥
no_run six (inl h) = omega (arith, six, h)
no_run six (inr h) = omega (arith, six, h)

pub returns : goal.returns
returns c =
    let laws : Laws = record {
      one_script = c.one_script.ensures;
      text = c.plain_runs_agree.ensures.text;
      told = c.plain_runs_agree.ensures.told;
      limits = c.floods_keep_the_limits.ensures;
      flood = λ key ranks messages. flood_is_plain key ranks messages c.floods_name_their_messages.ensures;
    } in
    record {
      determinate = λ e done line taken ranks lines known plain ended.
          of_done e done (λ short. absurd (no_run short.memory ended))
          (λ a ends. determinate_is laws e a ends line taken ranks lines known plain ended);
    }
