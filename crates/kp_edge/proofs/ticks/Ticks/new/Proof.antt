-- A value without bytes is made, and its number is 0.
use Rattle.std.proofs.Common.{[], ◌∷◌, refl}
use Rattle.std.proofs.raw_atomic.Walks.{proved}
use base.Fml.{ftrue}
use mir.Val.{Val, vstruct, vnil}
use types.Kit.{‵, ◌⊛◌, ◌$◌, ◌∵◌, !, qed, done, move, keep, fjoin, suffices, use0}
use types.Run.{enter, no_more, returns}
use types.ByLocal.{alloc_all, pass_all, free_all, look_at, sets}
use types.Part.{agg}
use denote.Steps.{nothing}
use denote.Shadow.{makes_shadow}
use denote.RattleType.{RattleType}
use denote.Struct.Struct.{Struct}
use denote.Triple.Walked.{Stays, walk_of, says, ends_at}
use Rattle.kp_edge.specs.contracts.ticks.Ticks.new as f
use Rattle.kp_edge.proofs.ticks.Ticks.new.Statement.{statement}
use Rattle.kp_edge.proofs.ticks.Ticks.new.Code as code
use Rattle.kp_edge.specs.contracts.ticks.Ticks as ticks

abbrev stayed : Stays f.ended.signature.params f.ended.kept
stayed = tt

abbrev token : Val
token = vstruct vnil

abbrev Mark : RattleType
Mark = Struct (record { name = ticks.the_type.name; args = []; types = []; fields = [] })

pub new_spec : {M : Type 1} → statement M
new_spec 𝓤 𝓛 𝓜 𝓡 wired =
    let c = f.clauses 𝓛 𝓜.mem 𝓡.returns in let W = walk_of 𝓛 f.ended stayed c in
    proved 𝓛 f.ended stayed c 𝓜 𝓡 tt
    f.Key.name code.function (code.unfolded 𝓤 𝓛.H 𝓜 𝓡 wired)
    (λ κs. tt) (λ κs. tt) (λ κs qs bounds a g are.
    let y : W.Ghost = ((κs, qs, bounds, a, tt), g) in
    qed 𝓛 ((‵ ftrue ⊛ ‵ ftrue) ∷ ‵ ftrue ∷ []) ∵ keep ! [] $
    enter ! _ _ _ _ _ $ alloc_all ! (λ l. pass_all ! refl tt $
    sets ! (agg ! (no_more !)) refl (tt, tt) $
    returns ! (look_at ! 0 refl) $ free_all ! refl $
    suffices ! _ (ends_at 𝓛 f.ended stayed c y token record { count = 0 } tt tt) $ says ! refl $
    use0 𝓛 (‵ (Mark.own_val tt (token ∷ []))) (makes_shadow 𝓛 (Mark.own_val tt (token ∷ [])) (λ vss. (tt, tt)) (tt, (refl, tt))) $
    nothing ! $ move ! (1 ∷ 0 ∷ []) $ fjoin ! $ nothing ! $ nothing ! $ done !))
