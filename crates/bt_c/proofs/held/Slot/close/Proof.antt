-- Nothing is owned but the two words, and no statement needs them.
use Rattle.std.proofs.Common.{List, [], ◌∷◌, ◌++◌, refl, sym, subst}
use mir.Syntax.{Fn}
use mir.Val.{Val, vunit}
use base.Logic.{SProp, ent, id⊢}
use prog.Wp.{WpFn}
use types.Kit.{‵, raw, ◌⊛◌, ◌$◌, ◌∵◌, !, qed, by, move, keep, drop, split, fsplit, fjoin, suffices, feq_i}
use types.Run.{of_opd, unit_lit, returns, enter}
use types.ByLocal.{alloc_all, pass_all, free_all, look_at, sets}
use contract.Running.{tables}
use denote.RattleType.{owns}
use denote.Signature.{types_at, plain}
use denote.Steps.{nothing}
use denote.Triple.Entry.{alive}
use denote.Triple.Walked.{Stays, stay_dropped, walk_of}
use Rattle.std.proofs.alloc.Calls.{Goes-blank}
use Rattle.std.proofs.raw_atomic.Walks.{proved_at, leaves}
use Rattle.std.specs.contracts.impls.GlobalAllocator.TheImpl.{ghosts}
use Rattle.bt_c.proofs.Slots.{Z, Slot, laws, words_of}
use Rattle.bt_c.proofs.Words.{words, words_fit}
use Rattle.bt_c.specs.contracts.held.Slot.close.{ended, clauses}
use Rattle.bt_c.specs.contracts.held.Slot.close.Key.{name}
use Rattle.bt_c.proofs.held.Slot.close.Statement.{statement}
use Rattle.bt_c.proofs.held.Slot.close.Code as code

pub close_spec : {M : Type 1} → statement M
close_spec 𝓤 𝓛 𝓜 𝓡 wired =
    let H = 𝓛.H in
    let 𝓣 = tables 𝓤 H 𝓜 𝓡 𝓡.env in
    let c = clauses 𝓛 𝓜.mem 𝓡.returns in
    let fn : Fn = code.function in
    let param = plain (λ _. Slot) in
    let stays : Stays ended.signature.params ended.kept = (stay_dropped param ended.kept.0, tt) in
    proved_at 𝓛 ended stays c 𝓜 𝓡 (Goes-blank 𝓛 0 param ended.kept.0 (λ κs x f. tt), tt) name fn (code.unfolded 𝓤 H 𝓜 𝓡 wired) (λ z are.
    let v = z.0.3.0 in
    let Post : Val → SProp 𝓤 = (walk_of 𝓛 ended stays c).post z in
    let Run : List Val → SProp 𝓤 = λ ws. WpFn 𝓤 H 𝓣.C 𝓣.Λ fn ws Post in
    let given = raw (alive 𝓛 ended.signature z.0.0 z.0.1) ⊛ ‵ (owns (types_at ended.signature.params z.0.0) z.0.3 z.0.4) in
    qed 𝓛 (given ∷ raw ((c z.0.0 z.0.3).requires z.1) ∷ []) ∵
    move ! (0 ∷ []) $ split ! $ move ! (1 ∷ []) $ fsplit ! $ words_of ! v z.0.4.0 (λ h ws fits. drop ! $
    let w : Val = words v.at h in
    suffices ! (Run (w ∷ [])) (subst (λ (us : List Val). ent 𝓤 (Run (w ∷ [])) (Run us)) (sym (λ i. ws i ++ [])) (id⊢ 𝓤 (Run (w ∷ [])))) $
    enter ! 𝓣.C 𝓣.Λ fn (w ∷ []) Post $ alloc_all ! (λ l. pass_all ! refl (words_fit Z laws ghosts v.at h fits, tt) $
    sets ! (of_opd ! (unit_lit !)) refl (tt, tt) $
    nothing ! $ feq_i ! (List Val) (vunit ∷ []) (vunit ∷ []) refl $
    nothing ! $ nothing ! $ fjoin ! $
    returns ! (look_at ! 0 refl) $ free_all ! refl $ keep ! (4 ∷ 0 ∷ 1 ∷ 2 ∷ []) $
    by ! (leaves 𝓛 ended stays c z vunit tt (tt, tt) (tt, tt)))))
