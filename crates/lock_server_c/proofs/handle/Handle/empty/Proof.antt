-- `empty` makes a handle with no server.
use Rattle.std.proofs.Common.{List, [], ◌∷◌, refl, lit<, None}
use Rattle.std.proofs.raw_atomic.Walks.{proved}
use mir.Val.{Val, vint, vstruct, vcons, vnil}
use mir.Syntax.{w64}
use base.Fml.{ftrue}
use types.Kit.{‵, raw, ◌$◌, ◌∵◌, !, qed, done, drop, fjoin, fpack, feq_i, suffices, group}
use types.Run.{enter, lit, no_more, and_then, returns}
use types.ByLocal.{alloc_all, pass_all, free_all, look_at, sets}
use types.Part.{agg}
use denote.RattleType.{Valss}
use denote.Builtin.{RawPtr}
use denote.RawPtr.{null_ptr}
use denote.Steps.{nothing}
use denote.Struct.Struct.{within}
use denote.Struct.Owning.{shape}
use denote.Triple.Entry.{on_entry}
use denote.Triple.Walked.{walk_of, says, ends_at}
use Rattle.lock_server_c.specs.contracts.handle.Handle as handle
use Rattle.lock_server_c.specs.contracts.handle.Handle.empty as f
use Rattle.lock_server_c.proofs.handle.Handle.empty.Statement.{statement}
use Rattle.lock_server_c.proofs.handle.Handle.empty.Code as code

abbrev null : Val
null = vint w64 0

abbrev word : Val
word = vstruct (vcons null vnil)

pub empty_spec : {M : Type 1} → statement M
empty_spec 𝓤 𝓛 𝓜 𝓡 wired =
    let c = f.clauses 𝓛 𝓜.mem 𝓡.returns in let W = walk_of 𝓛 f.ended tt c in
    proved 𝓛 f.ended tt c 𝓜 𝓡 tt f.Key.name code.function (code.unfolded 𝓤 𝓛.H 𝓜 𝓡 wired)
    (λ κs. tt) (λ κs. tt) (λ κs qs bounds a _ are.
    let y : W.Ghost = ((κs, qs, bounds, a, tt), tt) in
    qed 𝓛 (raw (on_entry 𝓛 f.signature κs qs a tt) ∷ ‵ ftrue ∷ []) ∵ drop ! $ drop ! $
    enter ! _ _ _ _ _ $ alloc_all ! (λ l. pass_all ! refl tt $
    sets ! (agg ! (and_then ! (lit ! tt) (no_more !))) refl (tt, (record { fits = lit< tt }, tt)) $
    returns ! (look_at ! 0 refl) $ free_all ! refl $
    suffices ! _ (ends_at 𝓛 f.ended tt c y word (record { at = null_ptr; server = None }) tt tt) $ says ! refl $
    nothing ! $ nothing ! $ feq_i ! (List Val) (null ∷ []) _ refl $ fjoin ! $ feq_i ! (List Val) (word ∷ []) _ refl $ fjoin ! $
    fpack ! (Valss (RawPtr ∷ [])) (within (shape handle.the_type) (null_ptr, tt) (word ∷ [])) (null ∷ [], tt) $ fjoin ! $
    nothing ! $ nothing ! $ group ! 3 $ done !))
