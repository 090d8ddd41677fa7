-- Versions that differ in some pages alone: so they do while lines are told, one after another they differ in the pages of both, and
-- what a storage site remembers of its versions answers how two of them differ.
use Rattle.std.proofs.Common.{◌≡◌, ℕ, zero, suc, ◌<◌, ◌+◌, ◌==◌, Bool, true, false, cond, ◌||◌, List, [], ◌∷◌, ◌++◌, length, take, filter, Option, Some, None, refl, sym, ◌∙◌, ap, subst, arith, ◌⊎◌, inl, inr}
use Rattle.std.specs.Option.{option_map}
use Rattle.role_steps.proofs.of_plain_facts.Numbers.{equal, equal_self}
use Rattle.role_steps.proofs.of_plain_facts.Options.{none_some, some_same}
use Rattle.role_steps.proofs.of_plain_facts.Tests.{true_false}
use Rattle.locus_ids.specs.declared.config.Config.{Config}
use Rattle.locus_ids.specs.declared.ids.FileId.{FileId}
use Rattle.locus_ids.specs.declared.ids.Stamp.{Stamp}
use Rattle.locus_ids.specs.Sizes.{inode_span}
use Rattle.commit_graph.specs.Versions.{content_of, same_stamp}
use Rattle.file_content.specs.Pages.{has_page, page_of, pages_from, pages_of}
use Rattle.role_steps.specs.Own.{Every}
use Rattle.role_steps.specs.Pulling.{bytes_in}
use Rattle.role_steps.specs.Storage.{delta_of, pages_back, pages_since, steps_in, steps_key, steps_kept, steps_of, with_step}
use Rattle.role_steps.specs.Tables.{row}
use Rattle.role_steps.specs.Views.{FileSteps, file_key}
use Rattle.role_steps.specs.declared.copies.Step.{Step}
use Rattle.the_run.specs.Kept.{Among}
use Rattle.the_run.specs.Worlds.{Line}
use Rattle.tree_model.specs.Histories.{history}
use Rattle.tree_laws.specs.Deltas.{AgreeBut, DifferIn, StepFact, StepOver, StepsFact}
use Rattle.tree_laws.specs.Frames.{VersionsStay}
use Rattle.tree_laws.specs.Instances.{Stands}
use Rattle.tree_laws.specs.Printed.{entries}
use Rattle.stored_versions.specs.Changes.{IsKept}
use Rattle.store_laws.proofs.Works.PageLists.{has_in, kept_there, kept_through, page_length}
use Rattle.tree_laws.proofs.Orders.Standing.{same_stamp_eq}
use Rattle.store_laws.proofs.Tabled.{every_row, file_of_key, row_found}

-- ---- lists of pages ----

among_first : (x : ℕ) (xs ys : List ℕ) → Among x xs → Among x (xs ++ ys)
among_first x [] ys m = absurd m
among_first x (z ∷ xs) ys (inl e) = inl e
among_first x (z ∷ xs) ys (inr m) = inr (among_first x xs ys m)

among_last : (x : ℕ) (xs ys : List ℕ) → Among x ys → Among x (xs ++ ys)
among_last x [] ys m = m
among_last x (z ∷ xs) ys m = inr (among_last x xs ys m)

among_has : (x : ℕ) (xs : List ℕ) → Among x xs → has_page xs x ≡ true
among_has x [] m = absurd m
among_has x (z ∷ xs) m = over (z == x) m refl (λ k. among_has x xs k)
  where
    over : (b : Bool) → (x ≡ z) ⊎ Among x xs → (z == x) ≡ b → (Among x xs → has_page xs x ≡ true) → b || has_page xs x ≡ true
    over true m e later = refl
    over false (inl same) e later = absurd (true_false (sym (subst (λ (y : ℕ). (y == x) ≡ true) same (equal_self x)) ∙ e))
    over false (inr m) e later = later m

pub has_among : (x : ℕ) (xs : List ℕ) → has_page xs x ≡ true → Among x xs
has_among x [] h = absurd (true_false (sym h))
has_among x (z ∷ xs) h = over (z == x) refl h (λ k. has_among x xs k)
  where
    over : (b : Bool) → (z == x) ≡ b → b || has_page xs x ≡ true → (has_page xs x ≡ true → Among x xs) → (x ≡ z) ⊎ Among x xs
    over true e h later = inl (sym (equal z x e))
    over false e h later = inr (later h)

among_filter : (x : ℕ) (f : ℕ → Bool) (xs : List ℕ) → Among x xs → f x ≡ true → Among x (filter f xs)
among_filter x f [] m e = absurd m
among_filter x f (z ∷ xs) (inl same) e = over (f z) (subst (λ (y : ℕ). f y ≡ true) same e)
  where
    over : (b : Bool) → b ≡ true → Among x (cond b (z ∷ filter f xs) (filter f xs))
    over true k = inl same
    over false k = absurd (true_false (sym k))
among_filter x f (z ∷ xs) (inr m) e = over (f z) (among_filter x f xs m e)
  where
    over : (b : Bool) → Among x (filter f xs) → Among x (cond b (z ∷ filter f xs) (filter f xs))
    over true later = inr later
    over false later = later

pub among_all : (count page : ℕ) → page < count → Among page (pages_from 0 count)
among_all count page inside = has_among page (pages_from 0 count) (has_in 0 count page (omega arith) (omega (arith, inside)))

-- ---- one content after another ----

kept_of : (a b : List ℕ) (page : ℕ) → page_of b page ≡ take (bytes_in (length b) page) (page_of a page) → IsKept a b page
kept_of a b page e = ap (λ (n : ℕ). take n (page_of a page)) (page_length b page) ∙ sym e

of_kept : (a b : List ℕ) (page : ℕ) → IsKept a b page → page_of b page ≡ take (bytes_in (length b) page) (page_of a page)
of_kept a b page k = sym k ∙ ap (λ (n : ℕ). take n (page_of a page)) (page_length b page)

pub agree_through : (a b d : List ℕ) (first then : List ℕ) → AgreeBut a b first → AgreeBut b d then → AgreeBut a d (then ++ first)
agree_through a b d first then one two page inside = over (two page inside)
  where
    Goal : Type 0
    Goal = Among page (then ++ first) ⊎ (page_of d page ≡ take (bytes_in (length d) page) (page_of a page))

    both : IsKept b d page → Among page first ⊎ (page_of b page ≡ take (bytes_in (length b) page) (page_of a page)) → Goal
    both k (inl m) = inl (among_last page then first m)
    both k (inr e) = inr (of_kept a d page (kept_through a b d page (kept_of a b page e) k))

    over : Among page then ⊎ (page_of d page ≡ take (bytes_in (length d) page) (page_of b page)) → Goal
    over (inl m) = inl (among_first page then first m)
    over (inr e) = (let k : IsKept b d page = kept_of b d page e in both k (one page (kept_there b d page inside k)))

-- what an unchanged page of a working content is, it is of its version
pub agree_working : (base content changed : List ℕ) → ((page : ℕ) → page < pages_of (length content) → has_page changed page ≡ false → IsKept base content page) → AgreeBut base content changed
agree_working base content changed kept page inside = over (has_page changed page) refl
  where
    over : (b : Bool) → has_page changed page ≡ b → Among page changed ⊎ (page_of content page ≡ take (bytes_in (length content) page) (page_of base page))
    over true e = inl (has_among page changed e)
    over false e = inr (of_kept base content page (kept page inside e))

-- they agree but in more pages, too
pub agree_more : (a b : List ℕ) (ps qs : List ℕ) → ((page : ℕ) → Among page ps → Among page qs) → AgreeBut a b ps → AgreeBut a b qs
agree_more a b ps qs more one page inside = over (one page inside)
  where
    over : Among page ps ⊎ (page_of b page ≡ take (bytes_in (length b) page) (page_of a page)) → Among page qs ⊎ (page_of b page ≡ take (bytes_in (length b) page) (page_of a page))
    over (inl m) = inl (more page m)
    over (inr e) = inr e

-- ---- while lines are told ----

pub differ_stays : (c : Config) (old new : List Line) → VersionsStay c old new → (f : FileId) (a b : Stamp) (pages : List ℕ) → DifferIn c old f a b pages → DifferIn c new f a b pages
differ_stays c old new v f a b pages k = record {
  earlier_stands = v.stands f a k.earlier_stands;
  later_stands = v.stands f b k.later_stands;
  agree = subst (λ (xs : List ℕ). AgreeBut xs (content_of (history c (entries new)) f b) pages) (sym (v.contents f a k.earlier_stands))
      (subst (λ (ys : List ℕ). AgreeBut (content_of (history c (entries old)) f a) ys pages) (sym (v.contents f b k.later_stands)) k.agree);
}

step_stays : (c : Config) (old new : List Line) → VersionsStay c old new → (f : FileId) (o : Option Stamp) (x : Step) → StepOver c old f o x → StepOver c new f o x
step_stays c old new v f None x k = v.stands f x.after k
step_stays c old new v f (Some before) x k = differ_stays c old new v f before x.after x.pages k

each_stays : (c : Config) (old new : List Line) → VersionsStay c old new → (f : FileId) (xs : List Step) → Every (StepFact c old f) xs → Every (StepFact c new f) xs
each_stays c old new v f [] k = tt
each_stays c old new v f (x ∷ xs) k = (step_stays c old new v f x.before x k.0, each_stays c old new v f xs k.1)

pub steps_stay : (c : Config) (old new : List Line) → VersionsStay c old new → (all : List FileSteps) → StepsFact c old all → StepsFact c new all
steps_stay c old new v [] k = tt
steps_stay c old new v (r ∷ rs) k = (each_stays c old new v r.file r.steps k.0, steps_stay c old new v rs k.1)

-- ---- what is remembered of a file ----

after_stands : (c : Config) (trace : List Line) (f : FileId) (o : Option Stamp) (x : Step) → StepOver c trace f o x → Stands c trace f x.after
after_stands c trace f None x k = k
after_stands c trace f (Some before) x k = k.later_stands

-- the steps found under the key of a file are of it
file_steps : (c : Config) (trace : List Line) → ((f : FileId) (s : Stamp) → Stands c trace f s → f.ino < inode_span) → (f : FileId) → f.ino < inode_span → (all : List FileSteps) → StepsFact c trace all → Every (StepFact c trace f) (steps_of f all)
file_steps c trace narrow f low all k = over (row steps_key (file_key f) all) refl
  where
    of_file : (g : FileId) (xs : List Step) → file_key g ≡ file_key f → Every (StepFact c trace g) xs → Every (StepFact c trace f) xs
    of_file g [] e h = tt
    of_file g (x ∷ xs) e h = subst (λ (y : FileId). Every (StepFact c trace y) (x ∷ xs)) (file_of_key g f (narrow g x.after (after_stands c trace g x.before x h.0)) low e) h

    over : (o : Option FileSteps) → row steps_key (file_key f) all ≡ o → Every (StepFact c trace f) (steps_in o)
    over None e = tt
    over (Some r) e = (let found : Every (StepFact c trace r.file) r.steps × (steps_key r ≡ file_key f) = row_found steps_key (file_key f) all r (λ (y : FileSteps). Every (StepFact c trace y.file) y.steps) e k in of_file r.file r.steps found.1 found.0)

every_take : {A : Type 0} (P : A → Type 0) (n : ℕ) (xs : List A) → Every P xs → Every P (take n xs)
every_take P zero xs h = tt
every_take P (suc n) [] h = tt
every_take P (suc n) (x ∷ xs) h = (h.0, every_take P n xs h.1)

-- one more is remembered
pub step_more : (c : Config) (trace : List Line) → ((f : FileId) (s : Stamp) → Stands c trace f s → f.ino < inode_span) → (f : FileId) → f.ino < inode_span → (x : Step) → StepFact c trace f x → (all : List FileSteps) → StepsFact c trace all → StepsFact c trace (with_step f x all)
step_more c trace narrow f low x k all steps =
    every_row steps_key (record { file = f; steps = take steps_kept (x ∷ steps_of f all) }) (λ (r : FileSteps). Every (StepFact c trace r.file) r.steps) all steps (every_take (StepFact c trace f) steps_kept (x ∷ steps_of f all) (k, file_steps c trace narrow f low all steps))

-- ---- how the wanted version differs from an own one ----

module _ (c : Config) (trace : List Line) (f : FileId) where
  -- a step after another
  differ_then : (a b d : Stamp) (first then : List ℕ) → DifferIn c trace f a b first → DifferIn c trace f b d then → DifferIn c trace f a d (then ++ first)
  differ_then a b d first then one two = record {
    earlier_stands = one.earlier_stands;
    later_stands = two.later_stands;
    agree = agree_through (content_of (history c (entries trace)) f a) (content_of (history c (entries trace)) f b) (content_of (history c (entries trace)) f d) first then one.agree two.agree;
  }

  back_differ : (own : Stamp) (x : Step) (o : Option Stamp) (earlier : Stamp → Option (List ℕ)) (pages : List ℕ) → StepOver c trace f o x → ((before : Stamp) (ps : List ℕ) → earlier before ≡ Some ps → DifferIn c trace f own before ps) →
      pages_back own x o earlier ≡ Some pages → DifferIn c trace f own x.after pages
  back_differ own x None earlier pages k later e = absurd (none_some pages e)
  back_differ own x (Some before) earlier pages k later e = over (same_stamp before own) refl e
    where
      more : (o : Option (List ℕ)) → earlier before ≡ o → option_map (λ (ps : List ℕ). x.pages ++ ps) o ≡ Some pages → DifferIn c trace f own x.after pages
      more None q e = absurd (none_some pages e)
      more (Some ps) q e = subst (DifferIn c trace f own x.after) (some_same (x.pages ++ ps) pages e) (differ_then own before x.after ps x.pages (later before ps q) k)

      over : (b : Bool) → same_stamp before own ≡ b → cond b (Some x.pages) (option_map (λ (ps : List ℕ). x.pages ++ ps) (earlier before)) ≡ Some pages → DifferIn c trace f own x.after pages
      over true q e = subst (DifferIn c trace f own x.after) (some_same x.pages pages e) (subst (λ (s : Stamp). DifferIn c trace f s x.after x.pages) (same_stamp_eq before own q) k)
      over false q e = more (earlier before) refl e

  since_differ : (xs : List Step) → Every (StepFact c trace f) xs → (own wanted : Stamp) (pages : List ℕ) → pages_since own wanted xs ≡ Some pages → DifferIn c trace f own wanted pages
  since_differ [] k own wanted pages e = absurd (none_some pages e)
  since_differ (x ∷ xs) k own wanted pages e = over (same_stamp x.after wanted) refl e (λ before ps p. since_differ xs k.1 own before ps p)
    where
      over : (b : Bool) → same_stamp x.after wanted ≡ b → cond b (pages_back own x x.before (λ before. pages_since own before xs)) None ≡ Some pages →
          ((before : Stamp) (ps : List ℕ) → pages_since own before xs ≡ Some ps → DifferIn c trace f own before ps) → DifferIn c trace f own wanted pages
      over true q e later = subst (λ (s : Stamp). DifferIn c trace f own s pages) (same_stamp_eq x.after wanted q) (back_differ own x x.before (λ before. pages_since own before xs) pages k.0 later e)
      over false q e later = absurd (none_some pages e)

  -- the answer names each page in which they differ
  delta_differs : (own wanted : Stamp) → Stands c trace f own → Stands c trace f wanted → (o : Option (List ℕ)) → ((pages : List ℕ) → o ≡ Some pages → DifferIn c trace f own wanted pages) → DifferIn c trace f own wanted (delta_of (pages_of (length (content_of (history c (entries trace)) f wanted))) o)
  delta_differs own wanted one two None since = record { earlier_stands = one; later_stands = two; agree = λ page inside. inl (among_all (pages_of (length (content_of (history c (entries trace)) f wanted))) page inside) }
  delta_differs own wanted one two (Some pages) since = record { earlier_stands = one; later_stands = two; agree = λ page inside. over page inside ((since pages refl).agree page inside) }
    where
      count : ℕ
      count = pages_of (length (content_of (history c (entries trace)) f wanted))

      over : (page : ℕ) → page < count → Among page pages ⊎ (page_of (content_of (history c (entries trace)) f wanted) page ≡ take (bytes_in (length (content_of (history c (entries trace)) f wanted)) page) (page_of (content_of (history c (entries trace)) f own) page)) →
          Among page (filter (has_page pages) (pages_from 0 count)) ⊎ (page_of (content_of (history c (entries trace)) f wanted) page ≡ take (bytes_in (length (content_of (history c (entries trace)) f wanted)) page) (page_of (content_of (history c (entries trace)) f own) page))
      over page inside (inl m) = inl (among_filter page (has_page pages) (pages_from 0 count) (among_all count page inside) (among_has page pages m))
      over page inside (inr e) = inr e

  -- what a storage site answers to a want, by what it remembers
  pub remembered_differ : ((g : FileId) (s : Stamp) → Stands c trace g s → g.ino < inode_span) → (all : List FileSteps) → StepsFact c trace all → (own wanted : Stamp) → Stands c trace f own → Stands c trace f wanted →
      DifferIn c trace f own wanted (delta_of (pages_of (length (content_of (history c (entries trace)) f wanted))) (pages_since own wanted (steps_of f all)))
  remembered_differ narrow all k own wanted one two = delta_differs own wanted one two (pages_since own wanted (steps_of f all)) (λ pages e. since_differ (steps_of f all) (file_steps c trace narrow f (narrow f wanted two) all k) own wanted pages e)
