-- When a block's packet is there: its interface is described.
use Rattle.std.proofs.Common.{◌≡◌, ℕ, ◌<◌, ◌≤◌, true, false, List, length, refl, arith, inl, inr, Option, None}
use Rattle.std.proofs.lemmas.Bool.{cases_lt}
use Rattle.std.proofs.lemmas.Option.{slice_get_cases, slice_get_past}
use Rattle.bt_pcap.specs.declared.numbers.Order.{Order}
use Rattle.bt_pcap.specs.declared.interfaces.Interface.{Interface}
use Rattle.bt_pcap.specs.Numbers.{number16, number32}
use Rattle.bt_pcap.specs.Formats.{Captured}
use Rattle.bt_pcap.specs.Reading.{lacks, read_packet, read_stamped}

pub past_6 : (order : Order) (known : List Interface) (body : List ℕ) → length known ≤ number32 order body → read_packet order known 6 body ≡ None
unfolding read_packet read_stamped
past_6 order known body le = rw (slice_get_past known (number32 order body) le) refl

pub past_2 : (order : Order) (known : List Interface) (body : List ℕ) → length known ≤ number16 order body → read_packet order known 2 body ≡ None
unfolding read_packet read_stamped
past_2 order known body le = rw (slice_get_past known (number16 order body) le) refl

pub past_3 : (order : Order) (known : List Interface) (body : List ℕ) → length known ≤ 0 → read_packet order known 3 body ≡ None
unfolding read_packet
past_3 order known body le = rw (slice_get_past known 0 le) refl

pub on_6 : (order : Order) (known : List Interface) (body : List ℕ) → number32 order body < length known
    → lacks 6 (read_packet order known 6 body) ≡ false
unfolding read_packet read_stamped
on_6 order known body lt =
    elim ((slice_get_cases known (number32 order body)).1) [
      | inl c ↦ rw (c.2) refl
      | inr c ↦ absurd (omega (arith, c.0))
    ]

pub on_2 : (order : Order) (known : List Interface) (body : List ℕ) → number16 order body < length known
    → lacks 2 (read_packet order known 2 body) ≡ false
unfolding read_packet read_stamped
on_2 order known body lt =
    elim ((slice_get_cases known (number16 order body)).1) [
      | inl c ↦ rw (c.2) refl
      | inr c ↦ absurd (omega (arith, c.0))
    ]

pub on_3 : (order : Order) (known : List Interface) (body : List ℕ) → 0 < length known → lacks 3 (read_packet order known 3 body) ≡ false
unfolding read_packet
on_3 order known body lt =
    elim ((slice_get_cases known 0).1) [
      | inl c ↦ rw (c.2) refl
      | inr c ↦ absurd (omega (arith, c.0))
    ]

none_lacks : (kind : ℕ) (packet : Option Captured) → lacks kind None ≡ true → packet ≡ None → lacks kind packet ≡ false → ⊥
none_lacks kind packet t e h = cc

pub within_6 : (order : Order) (known : List Interface) (body : List ℕ) → lacks 6 (read_packet order known 6 body) ≡ false
    → number32 order body < length known
within_6 order known body h =
    elim (cases_lt (number32 order body) (length known)) [
      | inl lt ↦ lt
      | inr le ↦ absurd (none_lacks 6 (read_packet order known 6 body) refl (past_6 order known body le) h)
    ]

pub within_2 : (order : Order) (known : List Interface) (body : List ℕ) → lacks 2 (read_packet order known 2 body) ≡ false
    → number16 order body < length known
within_2 order known body h =
    elim (cases_lt (number16 order body) (length known)) [
      | inl lt ↦ lt
      | inr le ↦ absurd (none_lacks 2 (read_packet order known 2 body) refl (past_2 order known body le) h)
    ]

pub within_3 : (order : Order) (known : List Interface) (body : List ℕ) → lacks 3 (read_packet order known 3 body) ≡ false → 0 < length known
within_3 order known body h =
    elim (cases_lt 0 (length known)) [
      | inl lt ↦ lt
      | inr le ↦ absurd (none_lacks 3 (read_packet order known 3 body) refl (past_3 order known body le) h)
    ]
