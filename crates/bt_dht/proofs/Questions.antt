-- The bytes of the question are the encoding of its dictionary.
use Rattle.std.proofs.Common.{◌≡◌, ℕ, List, ◌∷◌, ◌++◌, length, codes, refl, ap, sym, ◌∙◌, append_assoc}
use Rattle.std.specs.Prelude.{Option, Some, None}
use Rattle.std.specs.Fmt.{decimal, digits}
use Rattle.bt_bencode.specs.Trees.{dictionary}
use Rattle.bt_bencode.specs.Bencoding.{ben, ben_pairs, ben_string}
use Rattle.bt_address.specs.declared.compact.Family.{Family}
use Rattle.bt_address.specs.declared.compact.Family.TheVariants as family
use Rattle.bt_dht.specs.Questions.{get_peers_bytes, get_peers_of, want_bytes, want_of}

-- the question of its texts' encodings and its `want`
abbrev of_texts : (own hash t want : List ℕ) → List ℕ
of_texts own hash t want = codes "d1:ad2:id" ++ (own ++ (codes "9:info_hash" ++ (hash ++ (want ++ (codes "e" ++ (codes "1:q9:get_peers2:roi1e1:t"
    ++ (t ++ (codes "1:y1:q" ++ codes "e"))))))))

inner : (o h s w b e p q z : List ℕ) → (((o ++ (b ++ (h ++ w))) ++ e) ++ (p ++ (s ++ q))) ++ z ≡ o ++ (b ++ (h ++ (w ++ (e ++ (p ++ (s ++ (q ++ z)))))))
inner o h s w b e p q z = simp append_assoc

outer : (a o b h w c s d : List ℕ) → ((((((a ++ o) ++ b) ++ h) ++ w) ++ c) ++ s) ++ d ≡ a ++ (o ++ (b ++ (h ++ (w ++ (c ++ (s ++ d))))))
outer a o b h w c s d = simp append_assoc

by_texts : (t own hash : List ℕ) (want : Option Family)
    → ben (dictionary (get_peers_of t own hash want)) ≡ of_texts (ben_string own) (ben_string hash) (ben_string t) (ben_pairs (want_of want))
unfolding digits
by_texts t own hash want =
    ap (λ (x : List ℕ). codes "d1:ad2:id" ++ x)
    (inner (ben_string own) (ben_string hash) (ben_string t) (ben_pairs (want_of want)) (codes "9:info_hash") (codes "e") (codes "1:q9:get_peers2:roi1e1:t")
    (codes "1:y1:q") (codes "e"))

by_bytes : (t own hash : List ℕ) (want : Option Family)
    → get_peers_bytes t own hash want ≡ of_texts (codes "20:" ++ own) (codes "20:" ++ hash) (codes "4:" ++ t) (want_bytes want)
by_bytes t own hash want =
    outer (codes "d1:ad2:id20:") own (codes "9:info_hash20:") hash (want_bytes want) (codes "e1:q9:get_peers2:roi1e1:t4:") t (codes "1:y1:qe")

want_encoded : (want : Option Family) → want_bytes want ≡ ben_pairs (want_of want)
unfolding digits
want_encoded None = refl
want_encoded (Some family.V4) = refl
want_encoded (Some family.V6) = refl

twenty : (s : List ℕ) → length s ≡ 20 → codes "20:" ++ s ≡ ben_string s
unfolding digits
twenty s h = sym (ap (λ (n : ℕ). decimal n ++ 58 ∷ s) h)

four : (s : List ℕ) → length s ≡ 4 → codes "4:" ++ s ≡ ben_string s
unfolding digits
four s h = sym (ap (λ (n : ℕ). decimal n ++ 58 ∷ s) h)

pub encoded : (t own hash : List ℕ) (want : Option Family) → length t ≡ 4 → length own ≡ 20 → length hash ≡ 20
    → get_peers_bytes t own hash want ≡ ben (dictionary (get_peers_of t own hash want))
encoded t own hash want a b c =
    by_bytes t own hash want
    ∙ ap (λ (x : List ℕ). of_texts x (codes "20:" ++ hash) (codes "4:" ++ t) (want_bytes want)) (twenty own b)
    ∙ ap (λ (x : List ℕ). of_texts (ben_string own) x (codes "4:" ++ t) (want_bytes want)) (twenty hash c)
    ∙ ap (λ (x : List ℕ). of_texts (ben_string own) (ben_string hash) x (want_bytes want)) (four t a)
    ∙ ap (λ (x : List ℕ). of_texts (ben_string own) (ben_string hash) (ben_string t) x) (want_encoded want)
    ∙ sym (by_texts t own hash want)
