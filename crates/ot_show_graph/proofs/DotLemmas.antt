-- Text in pieces, and the two children of a link.
use Rattle.std.proofs.Common.{◌≡◌, ℕ, zero, suc, ◌<◌, ◌&&◌, Bool, true, false, List, [], ◌∷◌, ◌++◌, length, get_or, take, drop, refl, sym, ap, subst, ◌∙◌, arith, append_assoc, Vec, Global}
use Rattle.std.specs.Prelude.{◌==◌, Option, Some, None, slice_get, option_map, unwrap_or, count_by}
use Rattle.std.specs.declared.collections.BTreeMap.{BTreeMap}
use Rattle.std.proofs.lemmas.List.{get_or-map, get_or-take, length-take}
use Rattle.std.proofs.lemmas.List.Sums.{sum_by-cons}
use Rattle.std.proofs.lemmas.Option.{slice_get-get_or, slice_get_within}
use Rattle.ot_model.specs.declared.expr.Cell.{Cell}
use Rattle.ot_model.specs.declared.stmt.Use.{Use}
use Rattle.ot_depend.specs.Siblings.{Sibling, is_direct}
use Rattle.ot_show_print.specs.Shown.{Text}
use Rattle.ot_show_graph.specs.Children.{decls_of}
use Rattle.ot_show_graph.specs.Links.{AreLinks, between, cells_at, is_link, siblings_with, waits_itself}
use Rattle.ot_show_graph.specs.Written.{AreLabels, cells_with}
use Rattle.ot_show_graph.specs.Dot.{edge, edge_of}
use Rattle.ot_show_graph.specs.declared.child.Child.{Child}
use Rattle.ot_show_graph.specs.declared.link.Link.{Link}
use Rattle.ot_show_graph.proofs.LinkLemmas.{bit, same_number}

-- a text in so many pieces
pub in_three : (start t u v : Text) (a b c : Text) → t ≡ start ++ a → u ≡ t ++ b → v ≡ u ++ c → v ≡ start ++ (a ++ b ++ c)
in_three start t u v a b c p q r = r ∙ ap (λ x. x ++ c) (q ∙ ap (λ x. x ++ b) p) ∙ simp append_assoc

pub in_four : (start t u v w : Text) (a b c d : Text) → t ≡ start ++ a → u ≡ t ++ b → v ≡ u ++ c → w ≡ v ++ d → w ≡ start ++ (a ++ b ++ c ++ d)
in_four start t u v w a b c d p q r s = s ∙ ap (λ x. x ++ d) (in_three start t u v a b c p q r) ∙ simp append_assoc

pub in_five : (start t u v w x : Text) (a b c d e : Text) → t ≡ start ++ a → u ≡ t ++ b → v ≡ u ++ c → w ≡ v ++ d → x ≡ w ++ e
    → x ≡ start ++ (a ++ b ++ c ++ d ++ e)
in_five start t u v w x a b c d e p q r s l = l ∙ ap (λ x. x ++ e) (in_four start t u v w a b c d p q r s) ∙ simp append_assoc

-- ---- the order of a link

some_link : (links : List Link) (i : ℕ) (d : Link) → i < length links → 0 < count_by (is_link (get_or links i d).earlier (get_or links i d).later) links
some_link [] i d l = absurd (omega (arith, l))
some_link (x ∷ xs) zero d l =
    let same : bit (is_link x.earlier x.later x) ≡ bit true = ap (λ b. bit (b && (x.later == x.later))) (same_number x.earlier) ∙ ap bit (same_number x.later) in
    omega (arith, same, sum_by-cons (λ y. bit (is_link x.earlier x.later y)) x xs)
some_link (x ∷ xs) (suc i) d l =
    let at = get_or xs i d in
    omega (arith, some_link xs i d (omega (arith, l)), sum_by-cons (λ y. bit (is_link at.earlier at.later y)) x xs)

in_order : (xs : List Sibling) (earlier later : ℕ) → waits_itself xs earlier later ≡ true → earlier < later
in_order xs earlier later waits = by (slice_get (take later xs) earlier) refl waits
  where
    by : (o : Option Sibling) → slice_get (take later xs) earlier ≡ o →
        unwrap_or (option_map (λ one. unwrap_or (option_map (λ other. is_direct one.uses (drop (suc earlier) (take later xs)) other.uses) (slice_get xs later)) false) o) false ≡ true → earlier < later
    by None is h = cc
    by (Some x) is h =
        let within = slice_get_within (take later xs) earlier x is in
        omega (arith, within, length-take later xs)

one_or_none : (b : Bool) → 0 < bit b → b ≡ true
one_or_none true some = refl
one_or_none false some = absurd (omega (arith, some))

-- what a list of links reads past its end
abbrev pub itself : Link
itself = record { earlier = 0; later = 0 }

-- each of the links leads to a later child
pub links_ordered : (decls : List (List Use)) (links : List Link) (i : ℕ) (d : Link) → AreLinks decls links → i < length links → (get_or links i d).earlier < (get_or links i d).later
links_ordered decls links i d are l =
    let one = get_or links i d in
    in_order (siblings_with decls) one.earlier one.later
    (one_or_none (waits_itself (siblings_with decls) one.earlier one.later) (subst (λ n. 0 < n) (are.exact one.earlier one.later) (some_link links i d l)))

-- ---- the cells of a link

pub label_is : (children : List Child) (labels : List (BTreeMap ℕ (Vec Cell Global) Global)) (link : Link) (one other : Child) (met : BTreeMap ℕ (Vec Cell Global) Global)
    → AreLabels (decls_of children) labels → length labels ≡ length children → link.earlier < link.later → link.later < length children
    → one ≡ get_or children link.earlier one → other ≡ get_or children link.later other → met ≡ get_or labels link.later met
    → cells_with met link.earlier ≡ cells_at one.decl.now (between link (decls_of children)) other.decl.now
label_is children labels link one other met are same order within is other_is met_is =
    let decl = λ (c : Child). c.decl.now in
    let ds = decls_of children in
    let there : slice_get labels link.later ≡ Some met = slice_get-get_or labels link.later met (omega (arith, within, same)) ∙ ap Some (sym met_is) in
    let first : get_or (take link.later ds) link.earlier [] ≡ one.decl.now =
    get_or-take link.later ds link.earlier [] order ∙ get_or-map decl children link.earlier one [] (omega (arith, order, within)) ∙ ap decl (sym is) in
    let last : get_or ds link.later [] ≡ other.decl.now = get_or-map decl children link.later other [] within ∙ ap decl (sym other_is) in
    are link.later met there link.earlier
    ∙ ap (λ us. cells_at us (between link ds) (get_or ds link.later [])) first
    ∙ ap (λ us. cells_at one.decl.now (between link ds) us) last

-- the edge of a link between two children that are there
pub edge_is : (names : List Text) (children : List Child) (link : Link) (one other : Child) → link.earlier < length children → link.later < length children
    → one ≡ get_or children link.earlier one → other ≡ get_or children link.later other → edge names children link ≡ edge_of names children link one other
edge_is names children link one other first second is other_is =
    let from : slice_get children link.earlier ≡ Some one = slice_get-get_or children link.earlier one first ∙ ap Some (sym is) in
    let to : slice_get children link.later ≡ Some other = slice_get-get_or children link.later other second ∙ ap Some (sym other_is) in
    ap (λ o. unwrap_or (option_map (λ one. unwrap_or (option_map (edge_of names children link one) (slice_get children link.later)) []) o) []) from
    ∙ ap (λ o. unwrap_or (option_map (edge_of names children link one) o) []) to
