use Rattle.std.proofs.Common.{◌≡◌, ◌∙◌, ap, sym, rules, ◌+◌, length, Some, pos, inl, inr, w32, FitsSigned}
use Rattle.std.proofs.lemmas.Bool.{cases_lt, le-leb, lt-leb}
use Rattle.std.proofs.lemmas.Int.{to_z-of_z}
use Rattle.framing.specs.Frames.{size_at}
use Rattle.framing.proofs.Fronts.{fronts, begins_frame}
use Rattle.framing.proofs.framer.Framer.has_frame.Goals as goal

pub returns : goal.returns
returns c =
    let bytes = c.args.self.now.rest in
    let least = c.args.self.now.least in
    let most = c.args.self.now.most in
    let size = c.in-Some-allowed.length in
    let fits : FitsSigned w32 c.in-Some.size = search rules in
    let n : c.len.result ≡ length bytes = search rules in
    elim (cases_lt (length bytes) (4 + size)) [
      | inl missing ↦
          let size_is : size_at bytes ≡ Some (pos size) = sym c.in-Some.ensures.value ∙ ap Some (sym (to_z-of_z w32 c.in-Some.size fits) ∙ c.in-Some-allowed.ensures.allowed.0) in
          rw (n, lt-leb (4 + size) (length bytes) missing) (inl (inr (record { size = size; size_is = size_is; not_short = c.in-Some-allowed.ensures.allowed.2; not_long = c.in-Some-allowed.ensures.allowed.3; missing = missing })))
      | inr there ↦
          let f = fronts least most size bytes c.in-Some.size fits there c.in-Some-allowed.ensures.allowed c.in-Some.ensures.spelled in
          rw (n, le-leb (4 + size) (length bytes) there) (begins_frame _ _ _ _ f)
    ]
