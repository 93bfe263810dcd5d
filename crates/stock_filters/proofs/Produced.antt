-- What a changed field of a Produce request is in the list of its items.
use Rattle.std.proofs.Common.{◌≡◌, ◌∙◌, ap, sym, subst, refl, inl, inr, ℤ, pos, negsuc, Bool, true, ◌&&◌, List, [], ◌∷◌, Some, Ok}
use Rattle.std.specs.Prelude.{slice_set}
use Rattle.std.proofs.lemmas.Bool.Decides.{Decides-int_eq}
use Rattle.kp_schema.specs.declared.dir.Dir.{Dir}
use Rattle.kp_schema.specs.declared.dir.Dir.TheVariants.{Request, Response}
use Rattle.tree_spelling.specs.declared.primitive.Primitive.{Primitive}
use Rattle.tree_spelling.specs.declared.primitive.Primitive.TheVariants.{Int16}
use Rattle.tree_spelling.specs.declared.item.Item.TheVariants.{Number}
use Rattle.tree_spelling.specs.Shape.{Shape, End}
use Rattle.tree_spelling.specs.Value.{Value}
use Rattle.tree_spelling.specs.Body.{Contents, HasValue, body_shape}
use Rattle.tree_spelling.specs.Paths.{place_at}
use Rattle.tree_spelling.specs.Changes.{set_items}
use Rattle.filter_core.specs.Acks.{acks_in}
use Rattle.filter_core.specs.ProduceFields.{produce_request}
use Rattle.stock_filters.specs.Produce.{is_request, is_produce, IsRequestShape, request_shape}
use Rattle.stock_filters.specs.ProduceAll.{is_one, has_acks_one, with_all_acks, HasAcksOne, acks_one_there, both_true, ItemsOf}

pub is_a_request : (dir : Dir) → is_request dir ≡ true → dir ≡ Request
is_a_request Request is = refl
is_a_request Response is = absurd cc

pub produce_shape : (request : Contents) → is_produce request ≡ true → IsRequestShape request.version (body_shape request)
produce_shape request is =
    let p = both_true _ _ is in
    let key : request.key ≡ pos 0 = (Decides-int_eq request.key (pos 0)).0 p.0 in
    let dir : request.dir ≡ Request = is_a_request request.dir p.1 in
    rw (key, dir) (request_shape request.version)

place_of_acks : (shape : Shape) (items : List Primitive) → shape ≡ produce_request → (of : ItemsOf shape items) → place_at shape of.0 (1 ∷ []) ≡ Some 1
place_of_acks shape items is = subst (λ (s : Shape). (of : ItemsOf s items) → place_at s of.0 (1 ∷ []) ≡ Some 1) (sym is) (λ of. refl)

acks_place : (shape : Shape) (version : ℤ) (items : List Primitive) → IsRequestShape version shape → HasAcksOne items → (of : ItemsOf shape items) → place_at shape of.0 (1 ∷ []) ≡ Some 1
acks_place shape version items (inl h) has of = place_of_acks shape items h.1 of
acks_place shape version items (inr h) has of =
    let there : ItemsOf End items = subst (λ (s : Shape). ItemsOf s items) h of in
    absurd (let e : has.id ∷ Int16 has.acks ∷ has.more ≡ [] = sym has.items_are ∙ there.1 in cc)

set_there : (items : List Primitive) → HasAcksOne items → set_items items (Some 1) (Number (negsuc 0)) ≡ Ok (slice_set items 1 (Int16 (negsuc 0)))
set_there items has = rw (has.items_are) refl

pub acks_are_set : (request : Contents) → has_acks_one request ≡ true → (value : Value (body_shape request)) → (is : HasValue request value) → set_items request.items (place_at (body_shape request) value (1 ∷ [])) (Number (negsuc 0)) ≡ Ok (slice_set request.items 1 (Int16 (negsuc 0)))
acks_are_set request one value is =
    let p = both_true (is_produce request) (is_one (acks_in request.items)) one in
    let has = acks_one_there request.items p.1 in
    let place = acks_place (body_shape request) request.version request.items (produce_shape request p.0) has (value, is) in
    ap (λ o. set_items request.items o (Number (negsuc 0))) place ∙ set_there request.items has

pub both_are : (a b : Bool) → a ≡ true → b ≡ true → (a && b) ≡ true
both_are a b h g = rw (h, g) refl

pub with_acks_set : (request new : Contents) → has_acks_one request ≡ true → new ≡ record request { items = slice_set request.items 1 (Int16 (negsuc 0)) } → new ≡ with_all_acks request
with_acks_set request new one is = is ∙ rw one refl
