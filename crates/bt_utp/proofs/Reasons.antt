-- Why both ends closed, after one more datagram.
use Rattle.std.proofs.Common.{◌≡◌, ℕ, Bool, true, false, not, if◌then◌else◌, List, [], ◌∷◌, ◌++◌, Option, None, Some, refl, sym, ◌∙◌, ap, inl, inr}
use Rattle.std.specs.List.{filter}
use Rattle.std.specs.Option.{option_or}
use Rattle.std.proofs.lemmas.Bool.{cases_Bool}
use Rattle.std.proofs.lemmas.List.Sums.{fold_push}
use Rattle.bt_packet.specs.Utp.{UtpPacket}
use Rattle.bt_utp.specs.declared.flow.Flow.{Flow}
use Rattle.bt_utp.specs.Flows.{is_from, same_ends, has_room, kept, between, last_reason, source_reason, target_reason}
use Rattle.bt_utp.specs.States.{source_after, target_after}
use Rattle.bt_utp.proofs.Firsts.{append_none, kept_more, kept_same, filter_push, between_with, between_without}

said_push : (p : UtpPacket → Bool) (ds : List UtpPacket) (d : UtpPacket)
    → last_reason (filter p (ds ++ d ∷ [])) ≡ (if p d then option_or d.reason (last_reason (filter p ds)) else last_reason (filter p ds))
said_push p ds d = ap last_reason (filter_push p ds d) ∙ elim (cases_Bool (p d)) [
  | inl t ↦ rw t (fold_push (λ before e. option_or e.reason before) None (filter p ds) d)
  | inr f ↦ rw f (ap last_reason (append_none (filter p ds)))
]

turned : (b : Bool) (x y : Option ℕ) → (if not b then x else y) ≡ (if b then y else x)
turned true x y = refl
turned false x y = refl

source_with : (f : UtpPacket) (ds : List UtpPacket) (d : UtpPacket) → same_ends f d ≡ true
    → source_reason f (ds ++ d ∷ []) ≡ (if is_from f.source f.target d then option_or d.reason (source_reason f ds) else source_reason f ds)
unfolding source_reason
source_with f ds d h =
    ap (λ l. last_reason (filter (is_from f.source f.target) l)) (between_with f ds d h) ∙ said_push (is_from f.source f.target) (between f ds) d

target_with : (f : UtpPacket) (ds : List UtpPacket) (d : UtpPacket) → same_ends f d ≡ true
    → target_reason f (ds ++ d ∷ []) ≡ (if is_from f.source f.target d then target_reason f ds else option_or d.reason (target_reason f ds))
unfolding target_reason
target_with f ds d h =
    let back : UtpPacket → Bool = λ e. not (is_from f.source f.target e) in
    ap (λ l. last_reason (filter back l)) (between_with f ds d h) ∙ said_push back (between f ds) d
    ∙ turned (is_from f.source f.target d) (option_or d.reason (last_reason (filter back (between f ds)))) (last_reason (filter back (between f ds)))

source_without : (f : UtpPacket) (ds : List UtpPacket) (d : UtpPacket) → same_ends f d ≡ false → source_reason f (ds ++ d ∷ []) ≡ source_reason f ds
unfolding source_reason
source_without f ds d h = ap (λ l. last_reason (filter (is_from f.source f.target) l)) (between_without f ds d h)

target_without : (f : UtpPacket) (ds : List UtpPacket) (d : UtpPacket) → same_ends f d ≡ false → target_reason f (ds ++ d ∷ []) ≡ target_reason f ds
unfolding target_reason
target_without f ds d h = ap (λ l. last_reason (filter (λ e. not (is_from f.source f.target e)) l)) (between_without f ds d h)

-- ---- a datagram between other ends

pub source_away : (f : UtpPacket) (ds : List UtpPacket) (d : UtpPacket) → same_ends f d ≡ false
    → source_reason f (kept ds) ≡ source_reason f (kept (ds ++ d ∷ []))
source_away f ds d h = elim (cases_Bool (has_room (kept ds) d)) [
  | inl room ↦ sym (ap (source_reason f) (kept_more ds d room) ∙ source_without f (kept ds) d h)
  | inr full ↦ sym (ap (source_reason f) (kept_same ds d full))
]

pub target_away : (f : UtpPacket) (ds : List UtpPacket) (d : UtpPacket) → same_ends f d ≡ false
    → target_reason f (kept ds) ≡ target_reason f (kept (ds ++ d ∷ []))
target_away f ds d h = elim (cases_Bool (has_room (kept ds) d)) [
  | inl room ↦ sym (ap (target_reason f) (kept_more ds d room) ∙ target_without f (kept ds) d h)
  | inr full ↦ sym (ap (target_reason f) (kept_same ds d full))
]

-- ---- a datagram of a flow, which is kept

module _ (ds : List UtpPacket) (d f : UtpPacket) (own : same_ends f d ≡ true) (room : has_room (kept ds) d ≡ true) (w : Flow)
    (source : w.source ≡ f.source) (target : w.target ≡ f.target) where
  pub source_noted : w.source_reason ≡ source_reason f (kept ds) → source_after w d ≡ source_reason f (kept (ds ++ d ∷ []))
  source_noted is = rw (source, target, is) refl ∙ sym (source_with f (kept ds) d own) ∙ ap (source_reason f) (sym (kept_more ds d room))

  pub target_noted : w.target_reason ≡ target_reason f (kept ds) → target_after w d ≡ target_reason f (kept (ds ++ d ∷ []))
  target_noted is = rw (source, target, is) refl ∙ sym (target_with f (kept ds) d own) ∙ ap (target_reason f) (sym (kept_more ds d room))

-- ---- the first one of a flow

none_said : (o : Option ℕ) → o ≡ option_or o None
none_said None = refl
none_said (Some n) = refl

module _ (ds : List UtpPacket) (d : UtpPacket) (own : same_ends d d ≡ true) (from : is_from d.source d.target d ≡ true)
    (room : has_room (kept ds) d ≡ true) (none : between d (kept ds) ≡ []) where
  pub source_begun : d.reason ≡ source_reason d (kept (ds ++ d ∷ []))
  unfolding source_reason
  source_begun =
      let before : source_reason d (kept ds) ≡ None = ap (λ l. last_reason (filter (is_from d.source d.target) l)) none in
      none_said d.reason ∙ ap (option_or d.reason) (sym before)
      ∙ ap (λ t. if t then option_or d.reason (source_reason d (kept ds)) else source_reason d (kept ds)) (sym from)
      ∙ sym (source_with d (kept ds) d own) ∙ ap (source_reason d) (sym (kept_more ds d room))

  pub target_begun : None ≡ target_reason d (kept (ds ++ d ∷ []))
  unfolding target_reason
  target_begun =
      let before : target_reason d (kept ds) ≡ None = ap (λ l. last_reason (filter (λ e. not (is_from d.source d.target e)) l)) none in
      sym before
      ∙ ap (λ t. if t then target_reason d (kept ds) else option_or d.reason (target_reason d (kept ds))) (sym from)
      ∙ sym (target_with d (kept ds) d own) ∙ ap (target_reason d) (sym (kept_more ds d room))
