-- `produce-all`: a Produce request that one replica is to acknowledge is acknowledged by all that are in sync.
use Rattle.std.specs.Prelude.{◌≡◌, ℤ, pos, negsuc, Bool, true, false, ◌&&◌, if◌then◌else◌, List, [], ◌∷◌, slice_set, Option, Some, None, FitsSigned}
use Rattle.std.specs.Int.{w16}
use Rattle.std.specs.Ordering.{int_eq}
use Rattle.std.proofs.Common.{sym, ap, ◌∙◌, subst, refl, rules}
use Rattle.std.proofs.lemmas.Bool.Decides.{Decides-int_eq}
use Rattle.kp_schema.specs.declared.kind.Kind.TheVariants as kinds
use Rattle.tree_spelling.specs.declared.primitive.Primitive.{Primitive}
use Rattle.tree_spelling.specs.declared.primitive.Primitive.TheVariants.{Int16}
use Rattle.tree_spelling.specs.Spelling.{AreInRange}
use Rattle.tree_spelling.specs.Shape.{Shape}
use Rattle.tree_spelling.specs.Value.{Value, items_of}
use Rattle.tree_spelling.specs.Agenda.{passed}
use Rattle.tree_spelling.specs.Body.{Contents, IsTree, body_shape}
use Rattle.tree_spelling.proofs.Coming.{value_of}
use Rattle.tree_spelling.proofs.Blanks.{whole_passes}
use Rattle.tree_codec.proofs.Edits.{passed_same}
use Rattle.filter_core.specs.Acks.{acks_in, is_zero}
use Rattle.filter_core.specs.Decision.{Forward, Return, Turn}
use Rattle.filter_core.specs.Inputs.{IsWholeRequest}
use Rattle.filter_core.specs.Laws.{IsSentOnAs}
use Rattle.filter_core.specs.TwoTurns.{two_turns, handed_back}
use Rattle.filter_core.specs.Lawful.{KeepsLaws, handing_back, sent_on_itself}
use Rattle.stock_filters.specs.Produce.{is_produce}

abbrev pub is_one : Option ℤ → Bool
is_one None = false
is_one (Some number) = int_eq number (pos 1)

-- whether a request is a Produce with acks 1
abbrev pub has_acks_one : Contents → Bool
has_acks_one request = is_produce request && is_one (acks_in request.items)

-- acks is the second field; -1 stands for all replicas that are in sync
abbrev pub with_all_acks : Contents → Contents
with_all_acks request = if has_acks_one request then record request { items = slice_set request.items 1 (Int16 (negsuc 0)) } else request

abbrev pub produce_all : Turn
produce_all = two_turns (λ request. Forward (with_all_acks request)) handed_back

-- ---- why it keeps the laws

-- the items begin with some text and with acks 1
pub record HasAcksOne (items : List Primitive) : Type 0 where
  pub id : Primitive
  pub acks : ℤ
  pub more : List Primitive
  pub items_are : items ≡ id ∷ Int16 acks ∷ more
  pub acks_is : acks ≡ pos 1

pub acks_one_there : (items : List Primitive) → is_one (acks_in items) ≡ true → HasAcksOne items
acks_one_there (id ∷ (Int16 acks ∷ more)) is = record { id = id; acks = acks; more = more; items_are = refl; acks_is = (Decides-int_eq acks (pos 1)).0 is }
acks_one_there items is = absurd cc

pub both_true : (a b : Bool) → (a && b) ≡ true → (a ≡ true) × (b ≡ true)
both_true true b is = (refl, is)
both_true false b is = absurd cc

abbrev pub ItemsOf : Shape → List Primitive → Type 0
ItemsOf shape items = (value : Value shape) × (items ≡ items_of shape value)

all_fits : FitsSigned w16 (negsuc 0)
all_fits = search rules

-- another number of its kind stands in the place of acks
acks_set : (shape : Shape) (id : Primitive) (acks : ℤ) (more : List Primitive) → ItemsOf shape (id ∷ Int16 acks ∷ more) → ItemsOf shape (id ∷ Int16 (negsuc 0) ∷ more)
acks_set shape id acks more of =
    let other : kinds.I16 ≡ kinds.Array → ⊥ = λ e. absurd cc in
    let come = sym (passed_same (shape ∷ []) (id ∷ []) more (Int16 acks) (Int16 (negsuc 0)) refl other) ∙ ap (passed (shape ∷ [])) of.1 ∙ whole_passes shape of.0 in
    let v = value_of shape (id ∷ Int16 (negsuc 0) ∷ more) come in
    (v.0, sym v.1)

acks_tree : (request : Contents) → HasAcksOne request.items → IsTree request → IsTree (record request { items = slice_set request.items 1 (Int16 (negsuc 0)) })
acks_tree request has tree =
    let new : slice_set request.items 1 (Int16 (negsuc 0)) ≡ has.id ∷ Int16 (negsuc 0) ∷ has.more = ap (λ xs. slice_set xs 1 (Int16 (negsuc 0))) has.items_are in
    let old : ItemsOf (body_shape request) (has.id ∷ Int16 has.acks ∷ has.more) = (tree.value, sym has.items_are ∙ tree.is) in
    let set = acks_set (body_shape request) has.id has.acks has.more old in
    let fits : AreInRange (has.id ∷ Int16 has.acks ∷ has.more) = subst AreInRange has.items_are tree.in_range in
    let now_fits : AreInRange (has.id ∷ Int16 (negsuc 0) ∷ has.more) = (fits.0, (all_fits, fits.1.1)) in
    record { value = set.0; is = new ∙ set.1; in_range = subst AreInRange (sym new) now_fits }

same_zero : (items : List Primitive) → HasAcksOne items → is_zero (acks_in (slice_set items 1 (Int16 (negsuc 0)))) ≡ is_zero (acks_in items)
same_zero items has =
    ap (λ xs. is_zero (acks_in (slice_set xs 1 (Int16 (negsuc 0))))) has.items_are ∙ sym (ap (λ xs. is_zero (acks_in xs)) has.items_are ∙ ap (λ n. int_eq n (pos 0)) has.acks_is)

sent_by : (b : Bool) (request : Contents) → has_acks_one request ≡ b → IsWholeRequest request
    → IsSentOnAs request (if b then record request { items = slice_set request.items 1 (Int16 (negsuc 0)) } else request)
sent_by true request is whole =
    let has = acks_one_there request.items (both_true (is_produce request) (is_one (acks_in request.items)) is).1 in
    record {
      is_request = record { tree = acks_tree request has whole.tree; dir_is = whole.dir_is };
      same_key = refl;
      same_version = refl;
      same_acks = ap (λ z. int_eq request.key (pos 0) && z) (same_zero request.items has);
    }
sent_by false request is whole = sent_on_itself request whole

pub produce_all_keeps : KeepsLaws (λ request. Forward (with_all_acks request)) handed_back
produce_all_keeps =
    record {
      no_question = λ request. tt;
      forwards = λ request message is_request e. subst (IsSentOnAs request) (let z : Forward (with_all_acks request) ≡ Forward message = e in cc) (sent_by (has_acks_one request) request refl is_request);
      answers = λ request response is_request e. absurd (let z : Forward (with_all_acks request) ≡ Return response = e in cc);
      returns = λ input. (_, refl);
      returned_back = handing_back;
    }
