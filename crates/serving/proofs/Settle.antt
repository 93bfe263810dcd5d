-- One request settles, and the sweep goes on to the next.
use Rattle.std.proofs.Common.{◌≡◌, ◌∙◌, ap, refl, sym, subst, ℕ, ◌==◌, Bool, true, false, not, ◌&&◌, ◌||◌, if◌then◌else◌, List, length, Option, Some, None, arith}
use Rattle.kp_edge.specs.declared.end.End.{End}
use Rattle.conn_rules.specs.declared.causes.Causes.{Causes}
use Rattle.conn_rules.specs.Causes.{below, with_cut}
use Rattle.conn_rules.specs.Meaning.{Meaning, Fails}
use Rattle.conn_rules.specs.Settling.{Act, CutAt, is_listed, act_of, next_act}
use Rattle.conn_rules.specs.Settling.{lets_later_go as lets_go}
use Rattle.conn_rules.specs.State.{Outside, ListedSend, State, cut_at}
use Rattle.conn_rules.specs.Sweep.{IsQuietBefore, free_before, act_in, act_at}
use Rattle.conn_rules.proofs.Sweep.{sweeps}
use Rattle.correlation.specs.Windows.{Window}
use Rattle.correlation.proofs.WindowLaws.{laws}
use Rattle.serving.specs.declared.cause.Cause.{Cause}
use Rattle.serving.specs.declared.slot.Slot.{Slot}
use Rattle.serving.specs.declared.slot.Stage.{Stage}
use Rattle.serving.specs.declared.slot.Stage.TheVariants as stage
use Rattle.serving.specs.Causes.{why_of}
use Rattle.serving.specs.Slots.{is_ready, holds_none_back, lists_at, awaits_response, has_main, IsStage}
use Rattle.serving.specs.Listing.{IsSweptTo, IsSweptPast, GoesTo, IsSettledAt, SettlesAt, Advances}
use Rattle.serving.proofs.Places.{eqb_same}
use Rattle.serving.proofs.Freed.{cut_stands}
use Rattle.serving.proofs.Same.{same_cut, only_cut, goes_refl, goes_trans, keeps_same, not_low_at_cut}
use Rattle.serving.proofs.Asks.{low_act}

-- which stages have nothing to do by themselves
abbrev pub IsAtRest : {R : Type 0} → Bool → Stage R → Type 0
IsAtRest {R} free at = (lists_at free at ≡ false) × ((cause : Cause) → at ≡ stage.Failed cause → ⊥)

not_both : (a b : Bool) (x : Act) → b ≡ false → (if a && b then Some x else None) ≡ None
not_both true b x h = rw h refl
not_both false b x h = refl

listed_already : (a b : Bool) (x : Act) → a ≡ true → (if not a && b then Some x else None) ≡ None
listed_already true b x h = refl
listed_already false b x h = absurd (let never : false ≡ true = h in cc)

module _ {R : Type 0} (M : Meaning) (runs : R → List ℕ → List Outside → Type 0) where
  -- such a request does nothing
  pub no_act_by : (sends : List ListedSend) (k i : ℕ) (free : Bool) (frame : List ℕ) (given : List Outside) (at : Stage R) → IsStage M runs frame given at → (awaits_response at ≡ true → is_listed sends k i ≡ true) → IsAtRest free at → act_of sends k i free (M.status frame given) ≡ None
  no_act_by sends k i free frame given (stage.Unlisted m run) h listed rest = ap (λ x. act_of sends k i free x) h.0 ∙ not_both (not (is_listed sends k i)) (free || not m.main) _ rest.0
  no_act_by sends k i free frame given (stage.Listed run) h listed rest = ap (λ x. act_of sends k i free x) h.3 ∙ listed_already (is_listed sends k i) _ _ (listed refl)
  no_act_by sends k i free frame given (stage.Held key run) h listed rest = ap (λ x. act_of sends k i free x) h.0
  no_act_by sends k i free frame given (stage.Picked run) h listed rest = ap (λ x. act_of sends k i free x) h.1
  no_act_by sends k i free frame given (stage.Ready None) h listed rest = ap (λ x. act_of sends k i free x) h.1
  no_act_by sends k i free frame given (stage.Ready (Some response)) h listed rest = ap (λ x. act_of sends k i free x) h.1
  no_act_by sends k i free frame given (stage.Failed cause) h listed rest = absurd (rest.1 cause refl)
  no_act_by sends k i free frame given stage.AtWork h listed rest = absurd h

  -- and lets later main sends go as the machine says
  pub lets_by : (sends : List ListedSend) (k : ℕ) (frame : List ℕ) (given : List Outside) (at : Stage R) (main : Bool) → IsStage M runs frame given at → main ≡ has_main sends k → lets_go sends k (M.status frame given) ≡ (is_ready at || main)
  lets_by sends k frame given (stage.Unlisted m run) main h is = ap (λ x. lets_go sends k x) h.0 ∙ sym is
  lets_by sends k frame given (stage.Listed run) main h is = ap (λ x. lets_go sends k x) h.3 ∙ sym is
  lets_by sends k frame given (stage.Held key run) main h is = ap (λ x. lets_go sends k x) h.0 ∙ sym is
  lets_by sends k frame given (stage.Picked run) main h is = ap (λ x. lets_go sends k x) h.1 ∙ sym is
  lets_by sends k frame given (stage.Ready None) main h is = ap (λ x. lets_go sends k x) h.1
  lets_by sends k frame given (stage.Ready (Some response)) main h is = ap (λ x. lets_go sends k x) h.1
  lets_by sends k frame given (stage.Failed cause) main h is = ap (λ x. lets_go sends k x) h ∙ sym is
  lets_by sends k frame given stage.AtWork main h is = absurd h

  pub if_none : (low : Bool) (act : Option Act) → act ≡ None → (if low then act else None) ≡ None
  if_none true act h = h
  if_none false act h = refl

  module _ (k : ℕ) (free : Bool) (slot : Slot R) (w : Window) (t : State) (h : IsSweptTo M runs k free slot w t) where
    listed_here : awaits_response slot.stage ≡ true → is_listed t.sends k (length h.kept.request.given) ≡ true
    listed_here e =
        ap (λ i. is_listed t.sends k i) (sym h.kept.given)
        ∙ (h.kept.listed slot.given (omega arith) ∙ (ap (λ b. b && (slot.given == slot.given)) e ∙ eqb_same slot.given))

    no_act : IsAtRest free slot.stage → act_at M t k ≡ None
    no_act rest =
        ap (λ found. act_in M t k found) h.kept.there
        ∙ if_none (below t.causes.cut k) _ (no_act_by t.sends k (length h.kept.request.given) (free_before M t k) h.kept.request.frame h.kept.request.given slot.stage h.kept.stage listed_here (subst (λ f. IsAtRest f slot.stage) h.free_is rest))

    -- the sweep goes past it
    pub swept_past : IsAtRest free slot.stage → IsSweptPast M t k (Some (free && holds_none_back slot))
    swept_past rest = (
      (sweeps M).continues t k h.quiet (no_act rest),
      ap (λ f. f && holds_none_back slot) h.free_is
          ∙ (ap (λ b. free_before M t k && b) (sym (lets_by t.sends k h.kept.request.frame h.kept.request.given slot.stage slot.main_listed h.kept.stage h.kept.main))
          ∙ sym ((sweeps M).freed t k h.kept.request h.kept.there)),
    )

    -- or it fails, and nothing behind it does anything
    module _ (cause : Cause) (is : slot.stage ≡ stage.Failed cause) (low : below t.causes.cut k ≡ true) where
      fails : M.status h.kept.request.frame h.kept.request.given ≡ Fails (why_of cause)
      fails = subst (λ at. IsStage M runs h.kept.request.frame h.kept.request.given at) is h.kept.stage

      act : act_at M t k ≡ Some (CutAt k (why_of cause k))
      act =
          ap (λ found. act_in M t k found) h.kept.there
          ∙ (low_act (below t.causes.cut k) _ low ∙ ap (λ x. act_of t.sends k (length h.kept.request.given) (free_before M t k) x) fails)

      pub settled_failing : (causes : Causes) → causes ≡ t.causes → IsSettledAt M runs k t (with_cut k (why_of cause k) causes) slot w None (cut_at k (why_of cause k) t)
      settled_failing causes same =
          let why : End = why_of cause k in
          let next : next_act M t ≡ Some (CutAt k why) = (sweeps M).next t k (CutAt k why) h.quiet act in
          let quiet : IsQuietBefore M (cut_at k why t) k = (sweeps M).stays t k (CutAt k why) h.quiet act in
          record {
            goes = record { settles = λ u done. (sweeps M).acts t u (CutAt k why) next done; only = only_cut k why t };
            causes_is = ap (λ c. with_cut k why c) same;
            kept = keeps_same M runs t (cut_at k why t) k slot (same_cut k k why t) h.kept;
            window = laws.stays t (cut_at k why t) w (refl, refl, refl) h.window;
            past_is = ((sweeps M).ends_at_cut (cut_at k why t) k (not_low_at_cut k why t.causes) quiet, cut_stands (cut_at k why t).causes.cut k (not_low_at_cut k why t.causes));
          }

  -- what one request does by itself, behind what it listed
  module _ (k : ℕ) (free : Bool) (causes : Causes) (old new : Slot R) (w v : Window) (n m : ℕ) where
    -- it stands at the cut, or behind it
    pub settles_none : below causes.cut k ≡ false → SettlesAt M runs k free causes old w None causes old w n n
    settles_none low s same h =
        let low' : below s.causes.cut k ≡ false = ap (λ c. below c.cut k) (sym same) ∙ low in
        (s, record { goes = goes_refl M k s; causes_is = same; kept = h.kept; window = h.window; past_is = ((sweeps M).ends_at_cut s k low' h.quiet, cut_stands s.causes.cut k low') }, refl)

    module _ (low : below causes.cut k ≡ true) (lists : Advances M runs k free old w new v n m) where
      settled_by : (s t : State) (causes' : Causes) (past : Option Bool) (u : State) → GoesTo M k s t → IsSettledAt M runs k t causes' new v past u → IsSettledAt M runs k s causes' new v past u
      settled_by s t causes' past u goes h = record { goes = goes_trans M k s t u goes h.goes; causes_is = h.causes_is; kept = h.kept; window = h.window; past_is = h.past_is }

      pub settles_past : (lets : Bool) → lets ≡ (free && holds_none_back new) → IsAtRest free new.stage → SettlesAt M runs k free causes old w (Some lets) causes new v n m
      settles_past lets is rest s same h =
          let next = lists s (ap (λ c. below c.cut k) (sym same) ∙ low) h in
          let t : State = next.0 in
          let past : IsSweptPast M t k (Some lets) = subst (λ b. IsSweptPast M t k (Some b)) (sym is) (swept_past k free new v t next.3 rest) in
          (t, settled_by s t causes (Some lets) t next.1 (record { goes = goes_refl M k t; causes_is = same ∙ sym next.2; kept = next.3.kept; window = next.3.window; past_is = past }), next.4)

      pub settles_failing : (cause : Cause) → new.stage ≡ stage.Failed cause → SettlesAt M runs k free causes old w None (with_cut k (why_of cause k) causes) new v n m
      settles_failing cause is s same h =
          let next = lists s (ap (λ c. below c.cut k) (sym same) ∙ low) h in
          let t : State = next.0 in
          let low' : below t.causes.cut k ≡ true = ap (λ c. below c.cut k) (next.2 ∙ sym same) ∙ low in
          (cut_at k (why_of cause k) t, settled_by s t (with_cut k (why_of cause k) causes) None (cut_at k (why_of cause k) t) next.1 (settled_failing k free new v t next.3 cause is low' causes (same ∙ sym next.2)), next.4)
