use Rattle.std.proofs.Common.{◌≡◌, ℕ, List, ◌++◌, length, take, append_assoc}
use Rattle.std.specs.Prelude.{codes, decimal}
use Rattle.bt_bencode.specs.Bencoding.{ben}
use Rattle.bt_ext.specs.Fields.{size_of, told_id}
use Rattle.bt_text.specs.Lines.{or_dash}
use Rattle.bt_text.proofs.words.put_handshake.Goals as goal

regrouped : (o a n d r z s w u e : List ℕ) → ((((o ++ (n ++ a)) ++ d) ++ a) ++ r) ++ (z ++ (s ++ (w ++ (u ++ e))))
    ≡ o ++ ((n ++ (((a ++ d) ++ (a ++ r)) ++ (z ++ (s ++ (w ++ u))))) ++ e)
regrouped o a n d r z s w u e = simp append_assoc

pub returns-clause-text : goal.returns-clause-text
returns-clause-text g c = λ counted bytes same.
    let t = g.D.Dictionary.tree c.args.dict.now in
    rw c.put_announced.ensures.text (rw c.put_number-place-2.ensures.text (rw c.put_word-place-2.ensures.text
    (rw c.put_number-place.ensures.text (rw c.put_word-place.ensures.text (rw c.announced-id.ensures.id
    (rw c.announced-id.ensures.size (rw (c.length.ensures counted) (rw (← same)
    (regrouped (take c.args.at c.args.text.now) (codes " ") (codes "ext-handshake") (decimal (length (ben t))) (decimal (length bytes))
    (codes " size=") (or_dash (size_of t)) (codes " ut_metadata=") (or_dash (told_id t)) (codes "\n"))))))))))
