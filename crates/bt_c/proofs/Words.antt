-- A struct of a pointer and an allocator, by its two words.
use Rattle.std.proofs.Common.{◌≡◌, List, [], ◌∷◌, ◌++◌, refl, ◌∙◌, lit<}
use mathlib.Core.Bool.{true, ◌&&◌}
use lib.Dec.{T}
use seplogic.Ra.Ura.{Ura}
use mir.Syntax.{impl, tnil, dnil, ty_ptr}
use mir.Val.{Val, vstruct, vcons, vnil, of_list, has_ty, WT}
use types.Logic.{Logic}
use types.Kit.{Item, Goal, Seq, Step, step, ‵, ◌$◌, move, drop, fsplit, fjoin, fpick, fpack, feq_i, feq_l}
use denote.RattleType.{RattleType, Valss}
use denote.Builtin.{RawPtr}
use denote.RawPtr.{Ptr, ptr_val, block_ptr, null_ptr}
use denote.Steps.{nothing}
use denote.Param.{layout}
use denote.Param.Laws.{Laws}
use denote.Struct.Struct.{Struct, within}
use Rattle.std.specs.declared.alloc.Allocator.{Ghosts}
use Rattle.std.proofs.alloc.Calls.{Al, handle_tells}
use Rattle.std.proofs.cell.Inside.{Good}
use Rattle.std.proofs.ResultValues.{and_tt}

pub pointer_fits : (p : Ptr) → Good ty_ptr (ptr_val p)
pointer_fits (block_ptr b o) = (tt, tt)
pointer_fits null_ptr = (tt, record { fits = lit< tt })

-- the two words together
abbrev pub words : Ptr → Val → Val
words p h = vstruct (vcons (ptr_val p) (vcons h vnil))

module _ (Z : RattleType) (L : Laws Z) (g : Ghosts Z.Denot) where
  abbrev allocator : Al
  allocator = record { row = Z; laws = L; g = g; d = impl [] tnil dnil; drops = impl [] tnil dnil }

  -- what the fields own, whatever the struct is called
  abbrev pub Fields : RattleType
  Fields = Struct (record { name = []; args = []; types = []; fields = RawPtr ∷ Z ∷ [] })

  pub words_fit : (p : Ptr) (h : Val) → Good (layout Z) h
      → T (has_ty ty_ptr (ptr_val p) && (has_ty (layout Z) h && true)) × WT (words p h)
  words_fit (block_ptr b o) h fits = (and_tt (has_ty (layout Z) h) fits.0, (tt, (fits.1, tt)))
  words_fit null_ptr h fits = (and_tt (has_ty (layout Z) h) fits.0, (record { fits = lit< tt }, (fits.1, tt)))

  module _ {M : Type 1} {𝓤 : Ura M} {𝓛 : Logic 𝓤} {K : Type 0} {Γ : List (Item 𝓤)} {G : Goal 𝓤 𝓛.H} where
    pub words_out : K → (p : Ptr) (a : Z.Denot) (vs : List Val)
        → ((h : Val) → vs ≡ words p h ∷ [] → Good (layout Z) h → Seq K 𝓛 (‵ (Z.own_val a (h ∷ [])) ∷ Γ) G)
        → Seq K 𝓛 (‵ (Fields.own_val (p, (a, tt)) vs) ∷ Γ) G
    words_out t p a vs k = fpick t (λ vss. fsplit t $ feq_l t (λ whole. fsplit t $
        feq_l t (λ first. fsplit t $ handle_tells allocator t a vss.1.0 (λ h second fits.
        move t (1 ∷ []) $ drop t $ k h (whole ∙ (λ i. vstruct (of_list (first i ++ (second i ++ []))) ∷ [])) fits))))

    pub words_in : K → (p : Ptr) (a : Z.Denot) (h : Val) → Step K 𝓛 (‵ (Fields.own_val (p, (a, tt)) (words p h ∷ [])) ∷ Γ) G
        (‵ (Z.own_val a (h ∷ [])) ∷ Γ) G
    words_in t p a h = step (λ s. nothing t $ move t (1 ∷ 0 ∷ []) $ fjoin t $ feq_i t (List Val) (ptr_val p ∷ []) (ptr_val p ∷ []) refl $ fjoin t $
        feq_i t (List Val) (words p h ∷ []) (words p h ∷ []) refl $ fjoin t $
        fpack t (Valss (RawPtr ∷ Z ∷ [])) (within (record { name = []; args = []; types = []; fields = RawPtr ∷ Z ∷ [] }) (p, (a, tt)) (words p h ∷ []))
        (ptr_val p ∷ [], (h ∷ [], tt)) $ s)
