-- Whether any request holds back later main sends, as the requests change.
use Rattle.std.proofs.Common.{◌≡◌, ◌∙◌, ap, sym, refl, ℕ, zero, suc, ◌+◌, ◌≤◌, Bool, true, false, ◌&&◌, List, [], ◌∷◌, ◌++◌, length, take, Option, Some, None, slice_get, slice_set, arith, take_all}
use Rattle.std.proofs.lemmas.List.{take-append-le}
use Rattle.std.proofs.lemmas.Bool.{ltb-true}
use Rattle.kp_edge.specs.declared.end.End.{End}
use Rattle.conn_rules.specs.Causes.{below}
use Rattle.conn_rules.specs.Meaning.{Meaning}
use Rattle.conn_rules.specs.Settling.{lets_later_go}
use Rattle.conn_rules.specs.State.{Request, ListedSend, State}
use Rattle.conn_rules.specs.Sweep.{free_from, free_before}

-- a lesser cut, or none, leaves none where none stood
pub uncut : (c d : Option (ℕ × End)) → ((j : ℕ) → below d j ≡ true → below c j ≡ true) → d ≡ None → c ≡ None
uncut None d lower is = refl
uncut (Some cut) d lower is =
    let low : below (Some cut) cut.0 ≡ true = lower cut.0 (ap (λ x. below x cut.0) is) in
    absurd (omega (arith, ltb-true cut.0 cut.0 low))

-- where a request isn't below the cut, one stands
pub cut_stands : (c : Option (ℕ × End)) (k : ℕ) → below c k ≡ false → c ≡ None → ⊥
cut_stands c k low none = let never : true ≡ false = sym (ap (λ x. below x k) none) ∙ low in cc

module _ (M : Meaning) where
  -- past the last request nothing changes
  pub free_past : (s : State) (n : ℕ) → length s.requests ≤ n → free_before M s n ≡ free_before M s (length s.requests)
  free_past s n le = ap (λ rs. free_from M s.sends 0 true rs) (take_all n s.requests le ∙ sym (take_all (length s.requests) s.requests (omega arith)))

  -- a request that joins stands behind the others
  pub free_joined : (s : State) (r : Request) → free_before M (record s { requests = s.requests ++ r ∷ [] }) (length s.requests) ≡ free_before M s (length s.requests)
  free_joined s r = ap (λ rs. free_from M s.sends 0 true rs) (take-append-le (length s.requests) s.requests (r ∷ []) (omega arith))

  -- a request that holds back as it did
  free_set : (sends : List ListedSend) (rs : List Request) (j i : ℕ) (free : Bool) (r new : Request) → slice_get rs i ≡ Some r → lets_later_go sends (j + i) (M.status new.frame new.given) ≡ lets_later_go sends (j + i) (M.status r.frame r.given) → free_from M sends j free (slice_set rs i new) ≡ free_from M sends j free rs
  free_set sends [] j i free r new there same = refl
  free_set sends (x ∷ rs) j zero free r new there same =
      let e : x ≡ r = cc in
      let n : j + 0 ≡ j = omega arith in
      let here : lets_later_go sends j (M.status new.frame new.given) ≡ lets_later_go sends j (M.status x.frame x.given) =
      ap (λ k. lets_later_go sends k (M.status new.frame new.given)) (sym n) ∙ (same ∙ (ap (λ k. lets_later_go sends k (M.status r.frame r.given)) n ∙ ap (λ y. lets_later_go sends j (M.status y.frame y.given)) (sym e))) in
      ap (λ b. free_from M sends (suc j) (free && b) rs) here
  free_set sends (x ∷ rs) j (suc i) free r new there same =
      let n : suc j + i ≡ j + suc i = omega arith in
      free_set sends rs (suc j) i (free && lets_later_go sends j (M.status x.frame x.given)) r new there
      (ap (λ k. lets_later_go sends k (M.status new.frame new.given)) n ∙ (same ∙ ap (λ k. lets_later_go sends k (M.status r.frame r.given)) (sym n)))

  pub free_given : (s : State) (k : ℕ) (r new : Request) → slice_get s.requests k ≡ Some r → lets_later_go s.sends k (M.status new.frame new.given) ≡ lets_later_go s.sends k (M.status r.frame r.given) → free_from M s.sends 0 true (take (length (slice_set s.requests k new)) (slice_set s.requests k new)) ≡ free_before M s (length s.requests)
  free_given s k r new there same =
      let first : 0 + k ≡ k = omega arith in
      ap (λ rs. free_from M s.sends 0 true rs) (take_all (length (slice_set s.requests k new)) (slice_set s.requests k new) (omega arith))
      ∙ (free_set s.sends s.requests 0 k true r new there (ap (λ n. lets_later_go s.sends n (M.status new.frame new.given)) first ∙ (same ∙ ap (λ n. lets_later_go s.sends n (M.status r.frame r.given)) (sym first)))
      ∙ ap (λ rs. free_from M s.sends 0 true rs) (sym (take_all (length s.requests) s.requests (omega arith))))
