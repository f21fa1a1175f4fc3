-- What the bytes of an item are found to be.
use Rattle.std.proofs.Common.{◌≡◌, ℕ, ◌+◌, ◌^◌, ◌≤◌, ◌<◌, false, leb, List, length, Some, None, refl, sym, subst, ◌∙◌, arith, inl, inr}
use Rattle.std.proofs.lemmas.Bool.{cases_lt, le-leb, lt-leb}
use Rattle.std.proofs.lemmas.List.{take_all}
use Rattle.bt_wire.specs.declared.context.Context.{Context}
use Rattle.bt_wire.specs.declared.context.Order.{Order}
use Rattle.bt_wire.specs.declared.fault.Header.{Header}
use Rattle.bt_wire.specs.declared.fault.Header.TheVariants as headers
use Rattle.bt_wire.specs.declared.fault.Refused.{Refused}
use Rattle.bt_wire.specs.Faults as faults
use Rattle.bt_wire.specs.Faults.{header_fault, is_whole, IsFault}
use Rattle.bt_wire.specs.Headers.{header_of}
use Rattle.bt_wire.proofs.FrontLaws.{front_whole, front_fault}
use Rattle.bt_wire.proofs.HeaderLaws.{IsHeader, judged_at, whole_there, not_whole}
use Rattle.bt_feed.proofs.Places.{fault_within, hand_within}
use Rattle.bt_wire.proofs.WindowLaws.{early_header}
use Rattle.bt_feed.specs.declared.stage.Stage.{Stage}
use Rattle.bt_feed.specs.declared.stage.Stage.TheVariants as stage
use Rattle.bt_feed.specs.declared.progress.Progress.{Progress}
use Rattle.bt_feed.specs.Stages.{start_of, early, is_all, HasFault}
use Rattle.bt_feed.specs.Feeds.{held_of}
use Rattle.bt_feed.specs.Progress.{IsProgress, IsStart}

-- ---- the place of a refusal

pub fault_at : (t : Stage) (b : List ℕ) (f : Refused) → HasFault t b f → f.at ≤ length b
fault_at (stage.Handshake own) b f h = hand_within own b f h
fault_at (stage.Message c o s n) b f h = fault_within c o s b f h

pub early_has : (t : Stage) (b : List ℕ) (f : Refused) → early t b ≡ Some f → HasFault t b f
early_has (stage.Handshake own) b f e = e
early_has (stage.Message c o s n) b f e = faults.early f e refl

pub place_fits : (p : Progress) (buffer : List ℕ) (k : ℕ) → IsProgress p buffer → k ≤ length (held_of p buffer) → start_of p.stage + k < 2 ^ 64
place_fits p buffer k h le = omega (arith, h.start, h.bound, h.limit, le)

-- ---- the whole message

pub window_fault : (c : Context) (o : Order) (s : ℕ) (b : List ℕ) (f : Refused) → s < 2 ^ 62 → header_of c o b ≡ headers.Window (length b)
    → IsFault c o 0 b (Some f) → IsFault c o s b (Some f)
window_fault c o s b f lt e p =
    let P : List ℕ → Type 0 = λ x. IsFault c o 0 x (Some f) in
    front_fault c o s b (length b) f lt (front_whole c o b (length b) e (omega arith)) (subst P (sym (take_all (length b) b (omega arith))) p)

-- ---- what the header shows

pub early_need : (c : Context) (o : Order) (s i : ℕ) (b : List ℕ) (n : ℕ) → s < 2 ^ 62 → header_of c o b ≡ headers.Need n
    → (early (stage.Message c o s i) b ≡ None) × (is_all (stage.Message c o s i) b ≡ false)
early_need c o s i b n lt e =
    let j : (header_fault c o b ≡ None) × (is_whole b ≡ false) = judged_at c o b (headers.Need n) e in
    (early_header c o s b lt ∙ j.0, j.1)

pub early_window : (c : Context) (o : Order) (s i : ℕ) (b : List ℕ) (n : ℕ) → s < 2 ^ 62 → header_of c o b ≡ headers.Window n
    → (early (stage.Message c o s i) b ≡ None) × (is_all (stage.Message c o s i) b ≡ leb n (length b))
early_window c o s i b n lt e =
    let j : IsHeader c o b n = judged_at c o b (headers.Window n) e in (
      early_header c o s b lt ∙ j.none,
      elim (cases_lt (length b) n) [
        | inl short ↦ not_whole b (omega (arith, j.size)) ∙ sym (lt-leb n (length b) short)
        | inr there ↦ whole_there b (omega (arith, j.size)) ∙ sym (le-leb n (length b) there)
      ],
    )

-- what the first bytes say of a message that starts before the bound is what its header says
pub started : (c : Context) (o : Order) (s : ℕ) (b : List ℕ) → s < 2 ^ 62 → (h : Header) → h ≡ header_of c o b → IsStart c o s b h
started c o s b lt (headers.Need n) e = (lt, sym e)
started c o s b lt (headers.Window n) e = (lt, sym e)
started c o s b lt (headers.Refused at reason) e = early_header c o s b lt ∙ judged_at c o b (headers.Refused at reason) (sym e)
