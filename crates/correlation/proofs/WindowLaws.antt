-- The window follows the machine's list of sends.
use Rattle.std.proofs.Common.{◌≡◌, ◌∙◌, ap, ℕ, zero, suc, ◌+◌, ◌-◌, ◌≤◌, ◌<◌, nat_lt, Bool, true, false, not, if◌then◌else◌, List, [], ◌∷◌, ◌++◌, length, map, take, drop, refl, sym, subst, Option, Some, None, Ok, slice_get, arith, zero-add, suc-add, add-one, append_assoc}
use Rattle.std.proofs.lemmas.List.{append-nil, drop-append-le, take-append-le, drop_all, length-take-le, drop-map, map-append, take-append-drop, length-append, length-drop}
use Rattle.std.proofs.lemmas.Bool.{lt-ltb}
use Rattle.std.proofs.lemmas.Option.{slice_get_past, slice_get_within}
use Rattle.conn_rules.specs.State.{ListedSend, State, opening, responding, asked, due_send, waiting, upstream_frame}
use Rattle.correlation.specs.declared.owner.Owner.{Owner}
use Rattle.correlation.specs.declared.owner.Numbered.{Numbered}
use Rattle.correlation.specs.declared.sends.Unsent.{Unsent}
use Rattle.correlation.specs.Windows.{Window, fresh_window, with_listed, first_frame, without_first, with_taken, due_owner, with_answered}
use Rattle.correlation.specs.IsWindow.{owner_of, numbered, unsent_from, IsWindow, SameSends, one_listed, one_taken, one_answered, WindowLaws}
use Rattle.conn_rules.proofs.Lists.{found_first, one_more, none_behind}
use Rattle.correlation.proofs.Lists.{first_of_front, responding_behind, unsent_behind}

opens : IsWindow opening fresh_window
opens = record { next_is = refl; waiting_is = refl; owners_are = refl; unsent_are = refl; taken_there = omega arith; answered_asked = omega arith }

stays : (s t : State) (w : Window) → SameSends s t → IsWindow s w → IsWindow t w
stays s t w same h =
    let sends : t.sends ≡ s.sends = same.0 in
    let taken : t.taken ≡ s.taken = same.1 in
    let answered : t.answered ≡ s.answered = same.2 in
    let asked_same : asked t ≡ asked s = rw (sends, taken) refl in
    record {
      next_is = h.next_is ∙ ap length (sym sends);
      waiting_is = h.waiting_is ∙ rw (asked_same, answered) refl;
      owners_are = h.owners_are ∙ rw (sends, answered) refl;
      unsent_are = h.unsent_are ∙ rw (sends, taken) refl;
      taken_there = rw (sends, taken) h.taken_there;
      answered_asked = rw (asked_same, answered) h.answered_asked;
    }

-- the sends that get a response are those that were asked, and those of the rest
all_responding : (s : State) → s.taken ≤ length s.sends → responding 0 s.sends ≡ asked s ++ responding (length (take s.taken s.sends)) (drop s.taken s.sends)
all_responding s h =
    ap (λ ds. responding 0 ds) (sym (take-append-drop s.taken s.sends)) ∙ (responding_behind 0 (take s.taken s.sends) (drop s.taken s.sends) ∙ ap (λ k. asked s ++ responding k (drop s.taken s.sends)) (let e : 0 + length (take s.taken s.sends) ≡ length (take s.taken s.sends) = omega arith in e))

answered_within : (s : State) (w : Window) → IsWindow s w → s.answered ≤ length (responding 0 s.sends)
answered_within s w h =
    let e : length (responding 0 s.sends) ≡ length (asked s) + length (responding (length (take s.taken s.sends)) (drop s.taken s.sends)) = ap length (all_responding s h.taken_there) ∙ length-append (asked s) _ in
    omega (arith, e, h.answered_asked)

-- listing
owners_listed : (silent : Bool) (j : ℕ) (d : ListedSend) (owners : List Numbered) → (if not silent then owners else owners ++ record { number = j; owner = owner_of d } ∷ []) ≡ owners ++ map numbered (if silent then (j, d) ∷ [] else [])
owners_listed true j d owners = refl
owners_listed false j d owners = sym (append-nil owners)

lists : (s : State) (w : Window) (d : ListedSend) → IsWindow s w → IsWindow (one_listed d s) (with_listed (owner_of d) (upstream_frame w.next d) w)
lists s w d h =
    let t : State = one_listed d s in
    let same_asked : asked t ≡ asked s = ap (λ ds. responding 0 ds) (take-append-le s.taken s.sends (d ∷ []) h.taken_there) in
    let longer : length (s.sends ++ d ∷ []) ≡ length s.sends + 1 = length-append s.sends (d ∷ []) in
    let behind : responding 0 (s.sends ++ d ∷ []) ≡ responding 0 s.sends ++ responding (length s.sends) (d ∷ []) = responding_behind 0 s.sends (d ∷ []) ∙ ap (λ k. responding 0 s.sends ++ responding k (d ∷ [])) (let e : 0 + length s.sends ≡ length s.sends = omega arith in e) in
    let dropped : drop s.answered (responding 0 (s.sends ++ d ∷ [])) ≡ drop s.answered (responding 0 s.sends) ++ responding (length s.sends) (d ∷ []) = ap (λ rs. drop s.answered rs) behind ∙ drop-append-le s.answered (responding 0 s.sends) _ (answered_within s w h) in
    let rest : drop s.taken (s.sends ++ d ∷ []) ≡ drop s.taken s.sends ++ d ∷ [] = drop-append-le s.taken s.sends (d ∷ []) h.taken_there in
    let place : s.taken + length (drop s.taken s.sends) ≡ w.next = (let e : length (drop s.taken s.sends) ≡ length s.sends - s.taken = length-drop s.taken s.sends in omega (arith, e, h.taken_there, h.next_is)) in
    record {
      next_is = (let e : w.next + 1 ≡ length (s.sends ++ d ∷ []) = omega (arith, longer, h.next_is) in e);
      waiting_is = h.waiting_is ∙ ap (λ rs. length rs - s.answered) (sym same_asked);
      owners_are = owners_listed d.responds w.next d w.owners ∙ (ap (λ os. os ++ map numbered (if d.responds then (w.next, d) ∷ [] else [])) h.owners_are ∙ (ap (λ k. map numbered (drop s.answered (responding 0 s.sends)) ++ map numbered (responding k (d ∷ []))) h.next_is ∙ (sym (map-append numbered (drop s.answered (responding 0 s.sends)) _) ∙ ap (λ rs. map numbered rs) (sym dropped))));
      unsent_are = ap (λ us. us ++ record { silent = not d.responds; frame = upstream_frame w.next d } ∷ []) h.unsent_are ∙ (ap (λ k. unsent_from s.taken (drop s.taken s.sends) ++ unsent_from k (d ∷ [])) (sym place) ∙ (sym (unsent_behind s.taken (drop s.taken s.sends) (d ∷ [])) ∙ ap (λ ds. unsent_from s.taken ds) (sym rest)));
      taken_there = omega (arith, longer, h.taken_there);
      answered_asked = rw same_asked h.answered_asked;
    }

-- taking
pub record Front (s : State) (w : Window) (d : ListedSend) : Type 0 where
  pub rest : drop s.taken s.sends ≡ d ∷ drop (s.taken + 1) s.sends
  pub unsent : w.unsent ≡ record { silent = not d.responds; frame = upstream_frame s.taken d } ∷ unsent_from (s.taken + 1) (drop (s.taken + 1) s.sends)
  pub asked_more : asked (one_taken s) ≡ asked s ++ responding s.taken (d ∷ [])

front : (s : State) (w : Window) (d : ListedSend) → IsWindow s w → slice_get s.sends s.taken ≡ Some d → Front s w d
front s w d h is =
    let rest : drop s.taken s.sends ≡ d ∷ drop (s.taken + 1) s.sends = found_first s.sends s.taken d is ∙ ap (λ k. d ∷ drop k s.sends) (let e : suc s.taken ≡ s.taken + 1 = omega arith in e) in
    let len : length (take s.taken s.sends) ≡ s.taken = length-take-le s.taken s.sends h.taken_there in
    record {
      rest = rest;
      unsent = h.unsent_are ∙ (ap (λ ds. unsent_from s.taken ds) rest ∙ ap (λ k. record { silent = not d.responds; frame = upstream_frame s.taken d } ∷ unsent_from k (drop (s.taken + 1) s.sends)) (let e : suc s.taken ≡ s.taken + 1 = omega arith in e));
      asked_more = ap (λ k. responding 0 (take k s.sends)) (let e : s.taken + 1 ≡ suc s.taken = omega arith in e) ∙ (ap (λ ds. responding 0 ds) (one_more s.sends s.taken d is) ∙ (responding_behind 0 (take s.taken s.sends) (d ∷ []) ∙ ap (λ k. asked s ++ responding k (d ∷ [])) (let e : 0 + length (take s.taken s.sends) ≡ s.taken = omega (arith, len) in e)));
    }

-- how many wait, with one more that was taken
counted : (responds : Bool) (j : ℕ) (d : ListedSend) (answered waiting : ℕ) (rs : List (ℕ × ListedSend)) → answered ≤ length rs → waiting ≡ length rs - answered → (if not responds then waiting else waiting + 1) ≡ length (rs ++ (if responds then (j, d) ∷ [] else [])) - answered
counted true j d answered waiting rs le h = (let e : length (rs ++ (j, d) ∷ []) ≡ length rs + 1 = length-append rs ((j, d) ∷ []) in omega (arith, e, le, h))
counted false j d answered waiting rs le h = h ∙ ap (λ xs. length xs - answered) (sym (append-nil rs))

first : (s : State) (w : Window) (d : ListedSend) → IsWindow s w → slice_get s.sends s.taken ≡ Some d → (first_frame w.unsent ≡ Some (upstream_frame s.taken d)) × IsWindow (one_taken s) (with_taken w)
first s w d h is =
    let f : Front s w d = front s w d h is in
    let within : s.taken < length s.sends = slice_get_within s.sends s.taken d is in
    let new : Window = record w { waiting = if not d.responds then w.waiting else w.waiting + 1; unsent = unsent_from (s.taken + 1) (drop (s.taken + 1) s.sends) } in
    let same : with_taken w ≡ new = ap (λ us. without_first us w) f.unsent in
    let more : length (asked (one_taken s)) ≡ length (asked s) + length (responding s.taken (d ∷ [])) = ap length f.asked_more ∙ length-append (asked s) _ in
    let stands : IsWindow (one_taken s) new = record {
      next_is = h.next_is;
      waiting_is = counted d.responds s.taken d s.answered w.waiting (asked s) h.answered_asked h.waiting_is ∙ ap (λ rs. length rs - s.answered) (sym f.asked_more);
      owners_are = h.owners_are;
      unsent_are = refl;
      taken_there = omega (arith, within);
      answered_asked = omega (arith, more, h.answered_asked);
    } in
    (ap first_frame f.unsent, subst (λ (v : Window). IsWindow (one_taken s) v) (sym same) stands)

no_first : (s : State) (w : Window) → IsWindow s w → slice_get s.sends s.taken ≡ None → (first_frame w.unsent ≡ None) × (with_taken w ≡ w)
no_first s w h is =
    let none : w.unsent ≡ [] = h.unsent_are ∙ ap (λ ds. unsent_from s.taken ds) (drop_all s.taken s.sends (none_behind s.sends s.taken is)) in
    (ap first_frame none, ap (λ us. without_first us w) none)

-- answering
first_mapped : (rs : List (ℕ × ListedSend)) (due : ℕ × ListedSend) → slice_get rs 0 ≡ Some due → slice_get (map numbered rs) 0 ≡ Some (numbered due)
first_mapped [] due h = cc
first_mapped (r ∷ rs) due h = let e : r ≡ due = cc in rw e

due_first : (s : State) (w : Window) (due : ℕ × ListedSend) → IsWindow s w → due_send s ≡ Some due → slice_get w.owners 0 ≡ Some (numbered due)
due_first s w due h is =
    let rest : List (ℕ × ListedSend) = responding (length (take s.taken s.sends)) (drop s.taken s.sends) in
    let found : slice_get (drop s.answered (responding 0 s.sends)) 0 ≡ Some due = ap (λ rs. slice_get (drop s.answered rs) 0) (all_responding s h.taken_there) ∙ first_of_front (asked s) rest s.answered due is in
    ap (λ os. slice_get os 0) h.owners_are ∙ first_mapped (drop s.answered (responding 0 s.sends)) due found

some_waits : (n : ℕ) (found : Option Numbered) → 0 < n → (if nat_lt 0 n then found else None) ≡ found
some_waits n found h = rw (lt-ltb 0 n h)

due_is : (s : State) (w : Window) (due : ℕ × ListedSend) → IsWindow s w → due_send s ≡ Some due → due_owner w ≡ Some (numbered due)
due_is s w due h is =
    let within : s.answered < length (asked s) = slice_get_within (asked s) s.answered due is in
    some_waits w.waiting _ (omega (arith, within, h.waiting_is)) ∙ due_first s w due h is

none_waits : (n : ℕ) (found : Option Numbered) → n ≡ 0 → (if nat_lt 0 n then found else None) ≡ None
none_waits n found h = rw h

none_due : (s : State) (w : Window) → IsWindow s w → due_send s ≡ None → due_owner w ≡ None
none_due s w h is =
    let all : length (asked s) ≤ s.answered = none_behind (asked s) s.answered is in
    none_waits w.waiting _ (omega (arith, all, h.waiting_is))

drop_one_more : {X : Type 0} (n : ℕ) (xs : List X) → drop 1 (drop n xs) ≡ drop (suc n) xs
drop_one_more zero xs = refl
drop_one_more (suc n) [] = refl
drop_one_more (suc n) (x ∷ xs) = drop_one_more n xs

answers : (s : State) (w : Window) (due : ℕ × ListedSend) (owner : Owner) → IsWindow s w → due_send s ≡ Some due → IsWindow (one_answered s) (with_answered (Ok owner) w)
answers s w due owner h is =
    let within : s.answered < length (asked s) = slice_get_within (asked s) s.answered due is in
    record {
      next_is = h.next_is;
      waiting_is = (let e : w.waiting - 1 ≡ length (asked s) - (s.answered + 1) = omega (arith, h.waiting_is, within) in e);
      owners_are = ap (λ os. drop 1 os) h.owners_are ∙ (drop-map numbered 1 (drop s.answered (responding 0 s.sends)) ∙ ap (λ rs. map numbered rs) (drop_one_more s.answered (responding 0 s.sends) ∙ ap (λ k. drop k (responding 0 s.sends)) (let e : suc s.answered ≡ s.answered + 1 = omega arith in e)));
      unsent_are = h.unsent_are;
      taken_there = h.taken_there;
      answered_asked = omega (arith, within);
    }

pub laws : WindowLaws
laws = record { opens = opens; stays = stays; lists = lists; first = first; no_first = no_first; due_is = due_is; none_due = none_due; answers = answers }
