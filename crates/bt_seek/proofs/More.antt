-- One more name, and all others as before.
use Rattle.std.proofs.Common.{◌≡◌, ℕ, ◌<◌, zero, suc, List, [], ◌∷◌, ◌++◌, Option, Some, true, refl, ap, sym, subst, ◌∙◌, get_or, length, map, option_map}
use Rattle.std.proofs.lemmas.List.Folds.{list_any-append}
use Rattle.std.proofs.lemmas.Option.{slice_get-get_or, slice_get-map}
use Rattle.std.specs.Prelude.{◌||◌, slice_get}
use Rattle.std.specs.List.{list_any}
use Rattle.std.specs.declared.net.socket_addr.SocketAddr.{SocketAddr}
use Rattle.bt_seek.specs.Addresses.{has, is_same}
use Rattle.bt_seek.specs.Courses.{Course}
use Rattle.bt_seek.specs.Mails.{Mail}
use Rattle.bt_seek.specs.Names.{Names, Site, site_of, with_named_node, with_page, with_tracker}
use Rattle.bt_seek.specs.declared.named.Page.{Page}
use Rattle.bt_seek.specs.Runs.{IsTold, Seeking}
use Rattle.bt_seek.proofs.Runs.{IsMore, told_names}

has_more : (xs ys : List SocketAddr) (a : SocketAddr) → has xs a ≡ true → has (xs ++ ys) a ≡ true
has_more xs ys a e = list_any-append (λ b. is_same a b) xs ys ∙ ap (λ t. t || list_any (λ b. is_same a b) ys) e

page_at : (xs ys : List Site) (i : ℕ) (s : Site) → slice_get xs i ≡ Some s → slice_get (xs ++ ys) i ≡ Some s
page_at [] ys i s e = absurd (cc (e))
page_at (x ∷ xs) ys zero s e = e
page_at (x ∷ xs) ys (suc i) s e = page_at xs ys i s e

tracker_more : (n : Names) (a : SocketAddr) → IsMore n (with_tracker a n)
tracker_more n a = record { ids = refl; trackers = has_more n.trackers (a ∷ []); nodes = λ b e. e; pages = λ i s e. e }

node_more : (n : Names) (a : SocketAddr) → IsMore n (with_named_node a n)
node_more n a = record { ids = refl; trackers = λ b e. e; nodes = has_more n.nodes (a ∷ []); pages = λ i s e. e }

page_more : (n : Names) (s : Site) → IsMore n (with_page s n)
page_more n s = record { ids = refl; trackers = λ b e. e; nodes = λ b e. e; pages = page_at n.pages (s ∷ []) }

pub told_with_tracker : (a : SocketAddr) (old : Seeking) (n m : Names) (c : Course) → record { names = n; course = c } ≡ old → m ≡ with_tracker a n → (log : Option (List Mail)) → IsTold log old.names old.course → IsTold log m c
told_with_tracker a old n m c v e log h =
    let told = subst (λ (x : Seeking). IsTold log x.names x.course) (sym v) h in
    subst (λ (x : Names). IsTold log x c) (sym e) (told_names log n (with_tracker a n) c (tracker_more n a) told)

pub told_with_node : (a : SocketAddr) (old : Seeking) (n m : Names) (c : Course) → record { names = n; course = c } ≡ old → m ≡ with_named_node a n → (log : Option (List Mail)) → IsTold log old.names old.course → IsTold log m c
told_with_node a old n m c v e log h =
    let told = subst (λ (x : Seeking). IsTold log x.names x.course) (sym v) h in
    subst (λ (x : Names). IsTold log x c) (sym e) (told_names log n (with_named_node a n) c (node_more n a) told)

pub told_with_page : (s : Site) (old : Seeking) (n m : Names) (c : Course) → record { names = n; course = c } ≡ old → m ≡ with_page s n → (log : Option (List Mail)) → IsTold log old.names old.course → IsTold log m c
told_with_page s old n m c v e log h =
    let told = subst (λ (x : Seeking). IsTold log x.names x.course) (sym v) h in
    subst (λ (x : Names). IsTold log x c) (sym e) (told_names log n (with_page s n) c (page_more n s) told)

pub page_there : (pages : List Page) (i : ℕ) (p : Page) → i < length pages → p ≡ get_or pages i p → slice_get (map site_of pages) i ≡ Some (site_of p)
page_there pages i p l e = slice_get-map site_of pages i ∙ ap (option_map site_of) (slice_get-get_or pages i p l ∙ ap Some (sym e))
