-- The counts of faults of the input and the output, over a whole replay.
use Rattle.std.proofs.Common.{◌≡◌, ℕ, Result, Ok, Err, ◌⊎◌, inl, inr, sym, ◌∙◌, subst, refl}
use Rattle.std.specs.Prelude.{IsErrOf}
use Rattle.kp_edge.specs.Counts.{Rose, Counted, BothCounted}
use Rattle.proxy_main.specs.declared.stop.Stop.{Stop}
use Rattle.proxy_main.specs.declared.stop.Stop.TheVariants as stop
use Rattle.proxy_main.specs.declared.status.Status.{Status}
use Rattle.proxy_main.specs.declared.status.Status.TheVariants as status

-- what is Ok is no Err
pub is_no_err : {T E : Type 0} (r : Result T E) (x : T) (e : E) → r ≡ Ok x → ¬ IsErrOf r e
is_no_err r x e is failed = let both : Ok x ≡ Err e = sym is ∙ failed in cc

stopped_writing : (read : Result (Unit {0}) Stop) → IsErrOf read stop.Output ⊎ ¬ IsErrOf read stop.Output
stopped_writing (Ok u) = inr (λ e. cc)
stopped_writing (Err stop.BadLine) = inr (λ e. cc)
stopped_writing (Err stop.TooLong) = inr (λ e. cc)
stopped_writing (Err stop.Input) = inr (λ e. cc)
stopped_writing (Err stop.Output) = inl refl
stopped_writing (Err stop.NoMemory) = inr (λ e. cc)

-- the output's count over the reading of the script and what is written behind it
output_counted : (read : Result (Unit {0}) Stop) (s : Status) (before between after : ℕ) → Counted (IsErrOf read stop.Output) before between
    → (IsErrOf read stop.Output → (s ≡ status.OutputFault) × (after ≡ between)) → (¬ IsErrOf read stop.Output → Counted (s ≡ status.OutputFault) between after)
    → IsErrOf read stop.Output ⊎ ¬ IsErrOf read stop.Output → Counted (s ≡ status.OutputFault) before after
output_counted read s before between after counted failed passed (inl is) =
    let f = failed is in
    record { rises = λ fault. subst (λ n. Rose before n) (sym f.1) (counted.rises is); stays = λ other. absurd (other f.0) }
output_counted read s before between after counted failed passed (inr not) =
    let same : between ≡ before = counted.stays not in
    let later : Counted (s ≡ status.OutputFault) before after = subst (λ n. Counted (s ≡ status.OutputFault) n after) same (passed not) in
    later

pub both_counted : (read : Result (Unit {0}) Stop) (s : Status) (input_before input_after before between after : ℕ)
    → BothCounted (IsErrOf read stop.Input) (IsErrOf read stop.Output) input_before input_after before between
    → (IsErrOf read stop.Input → s ≡ status.InputFault) → (s ≡ status.InputFault → IsErrOf read stop.Input)
    → (IsErrOf read stop.Output → (s ≡ status.OutputFault) × (after ≡ between)) → (¬ IsErrOf read stop.Output → Counted (s ≡ status.OutputFault) between after)
    → BothCounted (s ≡ status.InputFault) (s ≡ status.OutputFault) input_before input_after before after
both_counted read s input_before input_after before between after counted input only failed passed =
    record {
      input = record { rises = λ fault. counted.input.rises (only fault); stays = λ other. counted.input.stays (λ is. other (input is)) };
      output = output_counted read s before between after counted.output failed passed (stopped_writing read);
    }
