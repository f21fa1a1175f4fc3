-- The lines on flows, one after another.
use Rattle.std.proofs.Common.{Result, Ok, Err, OnOk, ◌≡◌, ◌∙◌, ℕ, ◌+◌, ◌≤◌, Bool, List, [], ◌∷◌, ◌++◌, length, take, Some, None, append-nil}
use Rattle.std.proofs.Common.{refl, sym, ap, arith, zero, suc}
use Rattle.std.specs.List.{slice_get, flat_map}
use Rattle.std.proofs.lemmas.Grind.{flat_map-append}
use Rattle.bt_utp.specs.declared.flow.Counted.{Counted}
use Rattle.bt_pcap.specs.Formats.{Captured}
use Rattle.bt_capture.specs.Sights.{seen_in}
use Rattle.bt_capture.specs.FlowTexts.{datagrams, datagrams_in, flow_text, flow_texts}

take_none : (n : ℕ) → (take {A = Counted} n []) ≡ []
take_none zero = refl
take_none (suc n) = refl

longer : (fs : List Counted) (i : ℕ) (f : Counted) → Some f ≡ slice_get fs i → take (suc i) fs ≡ take i fs ++ f ∷ []
longer [] i f h = cc
longer (x ∷ fs) zero f h = let e : f ≡ x = cc in ap (λ y. y ∷ []) (sym e)
longer (x ∷ fs) (suc i) f h = ap (λ l. x ∷ l) (longer fs i f h)

as_long : (fs : List Counted) (i : ℕ) → None ≡ slice_get fs i → take (suc i) fs ≡ take i fs
as_long [] i h = sym (take_none i)
as_long (x ∷ fs) zero h = cc
as_long (x ∷ fs) (suc i) h = ap (λ l. x ∷ l) (as_long fs i h)

next : (i : ℕ) → i + 1 ≡ suc i
next i = omega arith

taken_more : (fs : List Counted) (i : ℕ) (f : Counted) → Some f ≡ slice_get fs i → take (i + 1) fs ≡ take i fs ++ f ∷ []
taken_more fs i f h = ap (λ n. take n fs) (next i) ∙ longer fs i f h

taken_all : (fs : List Counted) (i : ℕ) → None ≡ slice_get fs i → take (i + 1) fs ≡ take i fs
taken_all fs i h = ap (λ n. take n fs) (next i) ∙ as_long fs i h

-- one more line, or there is no further flow
pub more : (json : Bool) (fs : List Counted) (i : ℕ) (f : Counted) (text new : List ℕ) → Some f ≡ slice_get fs i
    → text ≡ flow_texts json (take i fs) → new ≡ text ++ flow_text json f
    → new ≡ flow_texts json (take (i + 1) fs)
unfolding flow_texts
more json fs i f text new at so_far is =
    is ∙ ap (λ l. l ++ flow_text json f) so_far
    ∙ sym (ap (flat_map (flow_text json)) (taken_more fs i f at) ∙ flat_map-append (flow_text json) (take i fs) (f ∷ [])
    ∙ ap (λ l. flat_map (flow_text json) (take i fs) ++ l) (append-nil (flow_text json f)))

pub no_more : (json : Bool) (fs : List Counted) (i : ℕ) (text : List ℕ) → None ≡ slice_get fs i → text ≡ flow_texts json (take i fs)
    → text ≡ flow_texts json (take (i + 1) fs)
no_more json fs i text at so_far = so_far ∙ sym (ap (flow_texts json) (taken_all fs i at))

take_length : (fs : List Counted) (n : ℕ) → length fs ≤ n → take n fs ≡ fs
take_length [] n h = take_none n
take_length (x ∷ fs) zero h = absurd (omega (arith, h))
take_length (x ∷ fs) (suc n) h = ap (λ l. x ∷ l) (take_length fs n (omega (arith, h)))

pub all : (json : Bool) (fs : List Counted) (n : ℕ) (text : List ℕ) → length fs ≤ n → text ≡ flow_texts json (take n fs) → text ≡ flow_texts json fs
all json fs n text h so_far = so_far ∙ ap (flow_texts json) (take_length fs n h)

pub none_yet : (json : Bool) (fs : List Counted) (text : List ℕ) → text ≡ [] → text ≡ flow_texts json (take 0 fs)
unfolding flow_texts
none_yet json [] text h = h
none_yet json (f ∷ fs) text h = h

pub ok_any : {T E P : Type 0} (r : Result T E) → P → OnOk r P
ok_any (Ok x) p = p
ok_any (Err e) p = tt

pub datagrams_more : (packets : List Captured) (p : Captured)
    → datagrams (packets ++ p ∷ []) ≡ datagrams packets ++ datagrams_in (seen_in p.link p.bytes p.original)
datagrams_more packets p =
    flat_map-append (λ q. datagrams_in (seen_in q.link q.bytes q.original)) packets (p ∷ [])
    ∙ ap (λ l. datagrams packets ++ l) (append-nil (datagrams_in (seen_in p.link p.bytes p.original)))
