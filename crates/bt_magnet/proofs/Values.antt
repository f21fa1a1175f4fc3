-- The values of a key and the entries of lines, one after the other.
use Rattle.std.proofs.Common.{◌≡◌, ℕ, Bool, true, false, List, [], ◌∷◌, ◌++◌, ◌+◌, ◌<◌, length, map, drop, get_or, codes, ap, sym, ◌∙◌, refl, Some}
use Rattle.std.proofs.Common.{add-one, drop-cons, arith}
use Rattle.std.proofs.lemmas.Grind.{common_steps}
use Rattle.std.proofs.lemmas.List.{map-append}
use Rattle.std.proofs.lemmas.Option.{slice_get-get_or}
use Rattle.std.proofs.Math.Nat.{add-sub_cancel}
use Rattle.std.specs.Prelude.{Any}
use Rattle.std.specs.Str.Lossy.{utf8_lossy}
use Rattle.bt_magnet.specs.declared.link.MagnetError.{MagnetError}
use Rattle.bt_magnet.specs.declared.link.MagnetError.TheVariants as errors
use Rattle.bt_magnet.specs.declared.pairs.Pair.{Pair}
use Rattle.bt_magnet.specs.Links.{has_key, pair_of, trackers_in, values_of, IsNoPeer, IsPeerError, IsUnsaid}
use Rattle.bt_magnet.specs.Lists.{entries_of, entry_of, has_text, IsWrongLine}
use Rattle.bt_magnet.specs.Peers.{IsPeer}

values_by : (key : List ℕ) (p : List ℕ × List ℕ) (ps : List (List ℕ × List ℕ)) (b : Bool) → has_key key p ≡ b
    → values_of key (p ∷ ps) ≡ values_of key (p ∷ []) ++ values_of key ps
values_by key p ps true e = rw e refl
values_by key p ps false e = rw e refl

pub values_split : (key : List ℕ) (p : List ℕ × List ℕ) (ps : List (List ℕ × List ℕ)) → values_of key (p ∷ ps) ≡ values_of key (p ∷ []) ++ values_of key ps
values_split key p ps = values_by key p ps (has_key key p) refl

entries_by : (l : List ℕ) (ls : List (List ℕ)) (b : Bool) → has_text (entry_of l) ≡ b → entries_of (l ∷ ls) ≡ entries_of (l ∷ []) ++ entries_of ls
entries_by l ls true e = rw e refl
entries_by l ls false e = rw e refl

pub entries_split : (l : List ℕ) (ls : List (List ℕ)) → entries_of (l ∷ ls) ≡ entries_of (l ∷ []) ++ entries_of ls
entries_split l ls = entries_by l ls (has_text (entry_of l)) refl

-- what is wrong with a part is wrong with the whole
pub any_within : {X : Type 0} (P : X → Type 0) (xs ys zs : List X) → Any P ys → Any P (xs ++ (ys ++ zs))
any_within P xs ys zs h = (length xs + h.0, h.1, grind (arith, common_steps), grind (arith, common_steps), h.4)

pub peer_error_within : (xs ys zs : List (List ℕ)) (e : MagnetError) → IsPeerError ys e → IsPeerError (xs ++ (ys ++ zs)) e
peer_error_within xs ys zs (errors.Peer place) h = any_within IsNoPeer xs ys zs h
peer_error_within xs ys zs errors.Memory h = h
peer_error_within xs ys zs errors.NoDigits h = h
peer_error_within xs ys zs errors.NoHash h = h
peer_error_within xs ys zs (errors.Hash place) h = h

-- one more pair after those in front of it
pub values_at : (key : List ℕ) (pairs : List Pair) (i : ℕ) (p : Pair) (front : List (List ℕ)) → i < length pairs → p ≡ get_or pairs i p
    → values_of key (map pair_of pairs) ≡ front ++ values_of key (map pair_of (drop i pairs))
    → values_of key (map pair_of pairs) ≡ front ++ (values_of key (pair_of p ∷ []) ++ values_of key (map pair_of (drop (i + 1) pairs)))
values_at key pairs i p front l is h =
    let cut : drop i pairs ≡ p ∷ drop (i + 1) pairs = grind (arith, common_steps) in
    h ∙ ap (λ x. front ++ values_of key (map pair_of x)) cut ∙ ap (λ x. front ++ x) (values_split key (pair_of p) (map pair_of (drop (i + 1) pairs)))

trackers_split : (p : List ℕ × List ℕ) (ps : List (List ℕ × List ℕ)) → trackers_in (p ∷ ps) ≡ trackers_in (p ∷ []) ++ trackers_in ps
trackers_split p ps = ap (map utf8_lossy) (values_split (codes "tr") p ps) ∙ map-append utf8_lossy (values_of (codes "tr") (p ∷ [])) (values_of (codes "tr") ps)

-- likewise of the trackers
pub trackers_at : (pairs : List Pair) (i : ℕ) (p : Pair) (front : List (List ℕ)) → i < length pairs → p ≡ get_or pairs i p
    → trackers_in (map pair_of pairs) ≡ front ++ trackers_in (map pair_of (drop i pairs))
    → trackers_in (map pair_of pairs) ≡ front ++ (trackers_in (pair_of p ∷ []) ++ trackers_in (map pair_of (drop (i + 1) pairs)))
trackers_at pairs i p front l is h =
    let cut : drop i pairs ≡ p ∷ drop (i + 1) pairs = grind (arith, common_steps) in
    h ∙ ap (λ x. front ++ trackers_in (map pair_of x)) cut ∙ ap (λ x. front ++ x) (trackers_split (pair_of p) (map pair_of (drop (i + 1) pairs)))

-- one more line after those in front of it
pub entries_at : (ls : List (List ℕ)) (i : ℕ) (l : List ℕ) (front : List (List ℕ)) → i < length ls → l ≡ get_or ls i []
    → entries_of ls ≡ front ++ entries_of (drop i ls) → entries_of ls ≡ front ++ (entries_of (l ∷ []) ++ entries_of (drop (i + 1) ls))
entries_at ls i l front within is h =
    let cut : drop i ls ≡ l ∷ drop (i + 1) ls = rw (is, add-one) (drop-cons ls i [] within) in
    h ∙ ap (λ x. front ++ entries_of x) cut ∙ ap (λ x. front ++ x) (entries_split l (drop (i + 1) ls))

-- a pair whose value is no peer
pub no_peer : (p : List ℕ × List ℕ) → has_key (codes "x.pe") p ≡ true → IsNoPeer p.1 → Any IsNoPeer (values_of (codes "x.pe") (p ∷ []))
no_peer p e h = rw e (0, p.1, omega arith, refl, h)

pub peer_error_unsaid : (pairs : List (List ℕ × List ℕ)) (e : MagnetError) → IsPeerError (values_of (codes "x.pe") pairs) e → IsUnsaid pairs e
peer_error_unsaid pairs (errors.Peer place) h = h
peer_error_unsaid pairs errors.Memory h = h
peer_error_unsaid pairs errors.NoDigits h = h
peer_error_unsaid pairs errors.NoHash h = absurd h
peer_error_unsaid pairs (errors.Hash place) h = absurd h

-- the line at an index, counted from 1
pub wrong_line : (ls : List (List ℕ)) (i : ℕ) (l : List ℕ) → i < length ls → l ≡ get_or ls i [] → ¬ (IsPeer (entry_of l))
    → 0 < length (entry_of l) → IsWrongLine ls (i + 1)
wrong_line ls i l within is wrong told =
    record {
      counted = omega arith;
      line = l;
      is = rw (add-sub_cancel i 1) (slice_get-get_or ls i [] within ∙ ap (λ x. Some x) (sym is));
      wrong = wrong;
      told = told;
    }
