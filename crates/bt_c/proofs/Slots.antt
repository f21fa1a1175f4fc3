-- What a slot owns: its two words, and the box of the end that it has.
use Rattle.std.proofs.Common.{◌≡◌, List, [], ◌∷◌, refl}
use seplogic.Ra.Ura.{Ura}
use mir.Syntax.{impl, tnil, dnil}
use mir.Val.{Val}
use base.Logic.{id⊢}
use types.Logic.{Logic}
use types.Kit.{Item, Goal, Seq, Step, step, ‵, ◌$◌, move, drop, fsplit, fjoin, use1, rewrite}
use denote.RattleType.{RattleType}
use denote.RawPtr.{Ptr, null_ptr}
use denote.Steps.{nothing}
use denote.Param.{layout}
use denote.Param.Laws.{Laws}
use Rattle.std.specs.Prelude.{Option, Some, None, is_some, true}
use Rattle.std.specs.Box.Ownership.{box_owns}
use Rattle.std.specs.contracts.alloc.Global as heap
use Rattle.std.specs.contracts.impls.GlobalAllocator.TheImpl.{ghosts}
use Rattle.std.proofs.alloc.Calls.{Al}
use Rattle.std.proofs.alloc.Global.TheLaws as heap_laws
use Rattle.std.proofs.cell.Inside.{Good}
use Rattle.bt_end.specs.contracts.end.End as end
use Rattle.bt_c.proofs.Words.{words, words_out, words_in}
use Rattle.bt_c.specs.Held.{owned_by}
use Rattle.bt_c.specs.contracts.held.Slot as slot
use Rattle.bt_c.specs.contracts.loose.Loose as loose

abbrev pub Z : RattleType
Z = heap.the_row

abbrev pub R : RattleType
R = end.the_row Z ghosts

abbrev pub allocator : Al
allocator = record { row = Z; laws = heap_laws.the_row_laws; g = ghosts; d = impl [] tnil dnil; drops = impl [] tnil dnil }

pub laws : Laws Z
laws = heap_laws.the_row_laws

-- a slot, and a box of an end that is taken apart
abbrev pub Slot : RattleType
Slot = slot.the_row

abbrev pub Apart : RattleType
Apart = loose.the_row R Z ghosts

-- the value of a slot that has one
pub found : (o : Option R.Denot) → is_some o ≡ true → (x : R.Denot) × (o ≡ Some x)
found (Some x) is = (x, refl)
found None is = absurd (cc)

module _ {M : Type 1} {𝓤 : Ura M} {𝓛 : Logic 𝓤} {K : Type 0} {Γ : List (Item 𝓤)} {G : Goal 𝓤 𝓛.H} where
  pub put_none : K → (h : Val) (a : Z.Denot)
      → Step K 𝓛 (‵ (Slot.own_val (record { at = null_ptr; alloc = a; value = None }) (words null_ptr h ∷ [])) ∷ Γ) G
      (‵ (Z.own_val a (h ∷ [])) ∷ Γ) G
  unfolding owned_by
  put_none t h a = step (λ s. words_in Z laws ghosts t null_ptr a h $ nothing t $ move t (1 ∷ 0 ∷ []) $ fjoin t $
      use1 𝓛 (‵ (Slot.own_val (record { at = null_ptr; alloc = a; value = None }) (words null_ptr h ∷ []))) (id⊢ 𝓤 _) $ s)

  -- a slot of the end that a box had
  pub put : K → (p : Ptr) (h : Val) (a : Z.Denot) (x : R.Denot)
      → Step K 𝓛 (‵ (Slot.own_val (record { at = p; alloc = a; value = Some x }) (words p h ∷ [])) ∷ Γ) G
      (‵ (box_owns (ghosts.dealloc_token a) R p x) ∷ ‵ (Z.own_val a (h ∷ [])) ∷ Γ) G
  unfolding owned_by
  put t p h a x = step (λ s. move t (1 ∷ 0 ∷ []) $ words_in Z laws ghosts t p a h $ fjoin t $
      use1 𝓛 (‵ (Slot.own_val (record { at = p; alloc = a; value = Some x }) (words p h ∷ []))) (id⊢ 𝓤 _) $ s)

  pub put_apart : K → (p : Ptr) (h : Val) (a : Z.Denot) (x : R.Denot)
      → Step K 𝓛 (‵ (Apart.own_val (record { at = p; alloc = a; value = x }) (words p h ∷ [])) ∷ Γ) G
      (‵ (box_owns (ghosts.dealloc_token a) R p x) ∷ ‵ (Z.own_val a (h ∷ [])) ∷ Γ) G
  put_apart t p h a x = step (λ s. move t (1 ∷ 0 ∷ []) $ words_in Z laws ghosts t p a h $ fjoin t $
      use1 𝓛 (‵ (Apart.own_val (record { at = p; alloc = a; value = x }) (words p h ∷ []))) (id⊢ 𝓤 _) $ s)

  pub take_apart : K → (d : Apart.Denot) (vs : List Val)
      → ((h : Val) → vs ≡ words d.at h ∷ [] → Good (layout Z) h
      → Seq K 𝓛 (‵ (box_owns (ghosts.dealloc_token d.alloc) R d.at d.value) ∷ ‵ (Z.own_val d.alloc (h ∷ [])) ∷ Γ) G)
      → Seq K 𝓛 (‵ (Apart.own_val d vs) ∷ Γ) G
  take_apart t d vs k = fsplit t $ words_out Z laws ghosts t d.at d.alloc vs (λ h ws fits. move t (1 ∷ 0 ∷ []) $ k h ws fits)

  -- the end of a slot that has one
  pub take : K → (d : Slot.Denot) (x : R.Denot) → d.value ≡ Some x → (vs : List Val)
      → ((h : Val) → vs ≡ words d.at h ∷ [] → Good (layout Z) h
      → Seq K 𝓛 (‵ (box_owns (ghosts.dealloc_token d.alloc) R d.at x) ∷ ‵ (Z.own_val d.alloc (h ∷ [])) ∷ Γ) G)
      → Seq K 𝓛 (‵ (Slot.own_val d vs) ∷ Γ) G
  unfolding owned_by
  take t d x is vs k = fsplit t $ words_out Z laws ghosts t d.at d.alloc vs (λ h ws fits. move t (1 ∷ 0 ∷ []) $
      rewrite t 0 (λ (o : Option R.Denot). ‵ (owned_by (ghosts.dealloc_token d.alloc) R d.at o)) is refl $ k h ws fits)

  -- the words of a slot, whatever it has, which is let go here
  pub words_of : K → (d : Slot.Denot) (vs : List Val)
      → ((h : Val) → vs ≡ words d.at h ∷ [] → Good (layout Z) h → Seq K 𝓛 (‵ (Z.own_val d.alloc (h ∷ [])) ∷ Γ) G)
      → Seq K 𝓛 (‵ (Slot.own_val d vs) ∷ Γ) G
  words_of t d vs k = fsplit t $ words_out Z laws ghosts t d.at d.alloc vs (λ h ws fits. move t (1 ∷ []) $ drop t $ k h ws fits)
