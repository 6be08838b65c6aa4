-- `into_loose` takes the pointer out of a handle that has a server.
use Rattle.std.proofs.Common.{◌≡◌, List, [], ◌∷◌, ◌++◌, refl, sym, subst, Option, Some, None, IsSome}
use Rattle.std.proofs.raw_atomic.Walks.{proved_at}
use Rattle.std.proofs.alloc.Calls.{Al, handle_tells}
use lib.Dec.{T}
use mir.Syntax.{impl, tnil, dnil}
use mir.Raw.{raw as bare}
use mir.Val.{Val, vptr, vstruct, vcons, vnil, of_list}
use base.Logic.{SProp, ent, id⊢, never, fst∗}
use base.Fml.{ftrue}
use prog.Wp.{WpFn}
use contract.Monad.{fact}
use contract.Running.{tables}
use types.Logic.{sem}
use types.Kit.{‵, raw, ◌⊛◌, ◌$◌, ◌∵◌, !, qed, done, keep, drop, split, join, fsplit, fpick, feq_l, rewrite, suffices, group, move}
use types.Run.{stop, fld, of_opd, enter, no_more, and_then, returns}
use types.ByLocal.{alloc_all, pass_all, free_all, look_at, get, get_in, sets}
use types.Part.{agg, sub, whole}
use denote.Exit.{yes}
use denote.Memory.{lone}
use denote.RattleType.{RattleType, owns}
use denote.Signature.{types_at, plain}
use denote.RawPtr.{Ptr, block_ptr, null_ptr, ptr_val, in_a_block}
use denote.Steps.{nothing, heard}
use denote.Triple.Walked.{Stays, walk_of, says, ends_at, stay_dropped, Goes-dropped}
use Rattle.std.specs.contracts.alloc.Global as heap
use Rattle.std.proofs.alloc.Global.TheLaws as heap_laws
use Rattle.std.specs.contracts.impls.GlobalAllocator.TheImpl as alloc
use Rattle.std_alloc.specs.Box.Ownership.{box_owns}
use Rattle.lock_server.specs.declared.server.LockServer.{LockServer}
use Rattle.lock_server.specs.contracts.server.LockServer as server
use Rattle.lock_server_c.specs.Owned.{handle_owns}
use Rattle.lock_server_c.proofs.Values.{both, loose_good, loose_in}
use Rattle.lock_server_c.specs.contracts.handle.Handle as handle
use Rattle.lock_server_c.specs.contracts.handle.Handle.into_loose as f
use Rattle.lock_server_c.proofs.handle.Handle.into_loose.Statement.{statement}
use Rattle.lock_server_c.proofs.handle.Handle.into_loose.Code as code

abbrev stayed : Stays f.ended.signature.params f.ended.kept
stayed = (stay_dropped _ yes, (stay_dropped _ yes, tt))

some_of : (held : Option LockServer) → IsSome held → (value : LockServer) × (held ≡ Some value)
some_of (Some value) s = (value, refl)
some_of None s = absurd (subst T (sym s) tt)

pub into_loose_spec : {M : Type 1} → statement M
into_loose_spec 𝓤 𝓛 𝓜 𝓡 wired =
    let c = f.clauses 𝓛 𝓜.mem 𝓡.returns in let W = walk_of 𝓛 f.ended stayed c in let 𝓣 = tables 𝓤 𝓛.H 𝓜 𝓡 𝓡.env in
    let R : RattleType = server.the_row in let Z : RattleType = heap.the_row in let LZ = heap_laws.the_row_laws in let g = alloc.ghosts in
    let al : Al = record { row = Z; laws = LZ; g = g; d = impl [] tnil dnil; drops = impl [] tnil dnil } in
    proved_at 𝓛 f.ended stayed c 𝓜 𝓡 (Goes-dropped 𝓛 0 (plain (λ _. handle.the_row)) yes (λ κs x w. refl), (Goes-dropped 𝓛 0 (plain (λ _. Z)) yes (λ κs x w. refl), tt)) f.Key.name code.function (code.unfolded 𝓤 𝓛.H 𝓜 𝓡 wired) (λ z are.
    let h = z.0.3.0 in let a = z.0.3.1.0 in let Post : Val → SProp 𝓤 = W.post z in let Run : List Val → SProp 𝓤 = λ ws. WpFn 𝓤 𝓛.H 𝓣.C 𝓣.Λ code.function ws Post in
    qed 𝓛 ((‵ ftrue ⊛ ‵ (owns (types_at f.signature.params z.0.0) z.0.3 z.0.4)) ∷ raw (fact 𝓤 (IsSome h.server)) ∷ []) ∵ move ! (1 ∷ []) $ heard ! (IsSome h.server) (λ some. let un = some_of h.server some in
    split ! $ move ! (1 ∷ []) $ fsplit ! $ move ! (1 ∷ []) $ fsplit ! $ handle_tells al ! a z.0.4.1.0 (λ gw ea fits.
    move ! (2 ∷ []) $ fsplit ! $ fpick ! (λ vss. fsplit ! $ feq_l ! (λ ev. fsplit ! $ feq_l ! (λ ep. drop ! $
    rewrite ! 0 (λ (held : Option LockServer). ‵ (handle_owns h.at held)) un.1 refl $
    in_a_block ! h.at (λ p. box_owns (g.dealloc_token a) R p un.0) (fst∗ 𝓤 (never 𝓤) (sem 𝓛 (g.dealloc_token a (bare (lone R.mir)) null_ptr))) (λ b o e. keep ! (0 ∷ 1 ∷ []) $
    let w : Val = vstruct (vcons (vptr b o) vnil) in
    let eh : z.0.4.0 ≡ w ∷ [] = subst (λ (p : Ptr). z.0.4.0 ≡ vstruct (of_list (ptr_val p ∷ [])) ∷ []) e (subst (λ (ps : List Val). z.0.4.0 ≡ vstruct (of_list (ps ++ [])) ∷ []) ep ev) in
    suffices ! (Run (w ∷ gw ∷ [])) (subst (λ (us : List Val). ent 𝓤 (Run (w ∷ gw ∷ [])) (Run us)) (sym (λ i. eh i ++ (ea i ++ []))) (id⊢ 𝓤 (Run (w ∷ gw ∷ [])))) $
    enter ! 𝓣.C 𝓣.Λ code.function (w ∷ gw ∷ []) Post $ alloc_all ! (λ l. pass_all ! refl ((tt, (tt, tt)), (fits, tt)) $
    sets ! (of_opd ! (get_in ! (fld ! refl (stop !)) (sub ! 0 refl (whole !)))) refl (tt, tt) $
    sets ! (of_opd ! (get ! refl)) refl (tt, tt) $
    sets ! (agg ! (and_then ! (get ! refl) (and_then ! (get ! refl) (no_more !)))) refl (loose_good R Z LZ g b o gw fits) $
    returns ! (look_at ! 0 refl) $ free_all ! refl $
    loose_in R Z LZ g ! b o gw a un.0 $
    suffices ! _ (ends_at 𝓛 f.ended stayed c z (both (vptr b o) gw) (record { at = block_ptr b o; alloc = a; value = un.0 }) (tt, (tt, tt)) (tt, (tt, tt))) $ says ! un.1 $
    nothing ! $ nothing ! $ join ! $ nothing ! $ join ! $ nothing ! $ group ! 3 $ done !))))))))
