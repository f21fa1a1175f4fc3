-- What judging the bytes at the front of a stream says of them.
use Rattle.std.proofs.Common.{◌≡◌, ℕ, ◌^◌, ◌≤◌, ◌<◌, true, List, ◌++◌, length, take, drop, Some, refl, sym, ap, subst, ◌∙◌, arith}
use Rattle.std.proofs.lemmas.List.{take-append-drop, length-take-le}
use Rattle.bt_wire.specs.declared.context.Context.{Context}
use Rattle.bt_wire.specs.declared.context.Order.{Order}
use Rattle.bt_wire.specs.declared.fault.Header.TheVariants as headers
use Rattle.bt_wire.specs.declared.fault.Reason.TheVariants.{StreamFull}
use Rattle.bt_wire.specs.declared.fault.Refused.{Refused}
use Rattle.bt_wire.specs.Messages.{Message}
use Rattle.bt_wire.specs.Faults.{is_whole, window, IsFault, early, unfinished}
use Rattle.bt_wire.specs.Fronts.{BeginsBy, IsPartial}
use Rattle.bt_wire.specs.Headers.{header_of, IsRead, IsWindow}
use Rattle.bt_wire.proofs.HeaderLaws.{IsJudged, judged_at, not_whole, whole_there, header-window, header-from_window}
use Rattle.bt_wire.proofs.WindowLaws.{early_full, early_header, fault-window, window_says}

pub front_full : (c : Context) (o : Order) (s : ℕ) (b : List ℕ) → 2 ^ 62 ≤ s → IsFault c o s b (Some (record { at = 0; reason = StreamFull }))
front_full c o s b le = early _ (early_full c o s b le) refl

pub front_need : (c : Context) (o : Order) (s : ℕ) (b : List ℕ) (n : ℕ) → s < 2 ^ 62 → header_of c o b ≡ headers.Need n → IsPartial c o s b
front_need c o s b n lt e =
    let j : IsJudged c o b (headers.Need n) = judged_at c o b (headers.Need n) e in
    record { none = unfinished (early_header c o s b lt ∙ j.0) j.1 refl; part = j.1 }

pub front_refused : (c : Context) (o : Order) (s : ℕ) (b : List ℕ) (f : Refused) → s < 2 ^ 62 → header_of c o b ≡ headers.Refused f.at f.reason
    → IsFault c o s b (Some f)
front_refused c o s b f lt e =
    let j : IsJudged c o b (headers.Refused f.at f.reason) = judged_at c o b (headers.Refused f.at f.reason) e in
    early f (early_header c o s b lt ∙ j) refl

pub front_cut : (c : Context) (o : Order) (s : ℕ) (b : List ℕ) (n : ℕ) → s < 2 ^ 62 → header_of c o b ≡ headers.Window n → length b < n → IsPartial c o s b
front_cut c o s b n lt e short =
    let j : IsJudged c o b (headers.Window n) = judged_at c o b (headers.Window n) e in
    let part = not_whole b (omega (arith, j.size)) in
    record { none = unfinished (early_header c o s b lt ∙ j.none) part refl; part = part }

-- the first n bytes are those of the message
pub record IsWhole (c : Context) (o : Order) (b : List ℕ) (n : ℕ) : Type 0 where
  pub whole : is_whole b ≡ true
  pub window : take n b ≡ window b
  pub header : header_of c o (take n b) ≡ headers.Window (length (take n b))

pub front_whole : (c : Context) (o : Order) (b : List ℕ) (n : ℕ) → header_of c o b ≡ headers.Window n → n ≤ length b → IsWhole c o b n
front_whole c o b n e le =
    let j : IsJudged c o b (headers.Window n) = judged_at c o b (headers.Window n) e in
    let all = whole_there b (omega (arith, j.size)) in
    let says = window_says b all in
    let here : take n b ≡ window b = ap (λ (k : ℕ). take k b) j.size in
    let w : IsWindow c o (window b) = record {
      long = omega (arith, says.1);
      exact = omega (arith, says.0, says.1);
      header = header-window c o b all
          ∙ j.none;
    } in
    let P : List ℕ → Type 0 = λ z. header_of c o z ≡ headers.Window (length z) in
    record { whole = all; window = here; header = subst P (sym here) (header-from_window c o (window b) w) }

pub front_read : (c : Context) (o : Order) (s : ℕ) (b : List ℕ) (n : ℕ) (m : Message) → s < 2 ^ 62 → n ≤ length b → IsRead c o (take n b) m
    → BeginsBy c o s b m n
front_read c o s b n m lt le r = record {
  said = record { in_range = r.said.in_range; legal = r.said.legal; start = lt };
  size = sym (ap length r.spelled ∙ length-take-le n b le);
  parts = sym (ap (λ (z : List ℕ). z ++ drop n b) r.spelled ∙ take-append-drop n b);
}

pub front_fault : (c : Context) (o : Order) (s : ℕ) (b : List ℕ) (n : ℕ) (f : Refused) → s < 2 ^ 62 → IsWhole c o b n → IsFault c o 0 (take n b) (Some f)
    → IsFault c o s b (Some f)
front_fault c o s b n f lt h p =
    let P : List ℕ → Type 0 = λ z. IsFault c o 0 z (Some f) in
    fault-window c o s b (Some f) lt h.whole (subst P h.window p)
