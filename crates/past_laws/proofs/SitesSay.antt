-- What the sites of the past and the folds say alike, as of the list of sites alone; and what becomes of a site that is
-- changed.
use Rattle.std.proofs.Common.{◌≡◌, ℕ, ◌==◌, ◌||◌, ◌&&◌, not, Bool, true, false, cond, List, [], ◌∷◌, map, Option, None, refl, sym, ap, subst, ◌∙◌}
use Rattle.std.specs.List.{find, list_any}
use Rattle.std.specs.Option.{option_map}
use Rattle.locus_ids.specs.declared.config.Config.{Config}
use Rattle.locus_ids.specs.declared.ids.FileId.{FileId}
use Rattle.commit_graph.specs.Vectors.{numbers_from}
use Rattle.trace_book.specs.declared.descriptor.Descriptor.{Descriptor}
use Rattle.tree_model.specs.Epochs.{is_up, boot_of, epoch_of, last_joined, calls_accepted}
use Rattle.tree_model.specs.Folds.{Trace}
use Rattle.tree_model.specs.Histories.{held as held_by}
use Rattle.promises.specs.of_lawful_trace.Tables.{descriptor}
use Rattle.promises.specs.Past.{Past, Site, Named, first_or, no_site, stamp_in}
use Rattle.promises.specs.After.{change}
use Rattle.past_laws.specs.Agreement.{SitesAgree}
use Rattle.past_laws.proofs.Names.{number_eq}
use Rattle.past_laws.proofs.Changing.{changed_so, first_changed_there, first_unchanged, first_part, any_finds, Finds, first_found, map_changed, any_changed}

-- Sites in a list.

abbrev pub has_number : ℕ → Site → Bool
has_number z s = s.number == z

abbrev pub site_in : List Site → ℕ → Site
site_in sites z = first_or no_site (has_number z) sites

abbrev pub is_there_in : List Site → ℕ → Bool
is_there_in sites z = list_any (has_number z) sites

abbrev pub table_in : Site → ℕ → ℕ → Option Descriptor
table_in s process fd = option_map (λ (d : Named). d.names) (find (λ (d : Named). (d.process == process) && (d.fd == fd)) s.descriptors)

pub record SitesSay (c : Config) (trace : Trace) (sites : List Site) : Type 0 where
  pub numbers : map (λ (s : Site). s.number) sites ≡ numbers_from 1 c.sites
  pub up : (z : ℕ) → is_there_in sites z ≡ true → (site_in sites z).up ≡ is_up c trace z
  pub boot : (z : ℕ) → is_there_in sites z ≡ true → (site_in sites z).boot ≡ boot_of trace z
  pub epoch : (z : ℕ) → (site_in sites z).epoch ≡ epoch_of trace z
  pub joined : (z : ℕ) → (site_in sites z).joined ≡ last_joined trace z
  pub accepted : (z : ℕ) → (site_in sites z).accepted ≡ calls_accepted trace z
  pub held : (z : ℕ) → is_there_in sites z ≡ true → (f : FileId) → stamp_in (site_in sites z).held f ≡ held_by c trace z f
  pub table : (z process fd : ℕ) → table_in (site_in sites z) process fd ≡ descriptor trace z process fd
  pub down : (z : ℕ) → is_up c trace z ≡ false → epoch_of trace z ≡ None

pub said_of_past : (c : Config) (trace : Trace) (p : Past) → SitesAgree c trace p → SitesSay c trace p.sites
said_of_past c trace p s = record { numbers = s.numbers; up = s.up; boot = s.boot; epoch = s.epoch; joined = s.joined; accepted = s.accepted; held = s.held; table = s.table; down = s.down }

pub past_as_said : (c : Config) (trace : Trace) (p : Past) → SitesSay c trace p.sites → SitesAgree c trace p
past_as_said c trace p s = record { numbers = s.numbers; up = s.up; boot = s.boot; epoch = s.epoch; joined = s.joined; accepted = s.accepted; held = s.held; table = s.table; down = s.down }

-- What becomes of a site.

abbrev pub KeepsNumber : (Site → Site) → Type 0
KeepsNumber f = (x : Site) → (f x).number ≡ x.number

pub same_there : (s z : ℕ) (f : Site → Site) → KeepsNumber f → (sites : List Site) → is_there_in (change (has_number s) f sites) z ≡ is_there_in sites z
same_there s z f keep sites = any_changed (has_number z) (has_number s) f (λ x e. ap (λ n. n == z) (keep x)) sites

pub own_site : (s : ℕ) (f : Site → Site) → KeepsNumber f → (sites : List Site) → is_there_in sites s ≡ true → site_in (change (has_number s) f sites) s ≡ f (site_in sites s)
own_site s f keep sites h =
    first_changed_there no_site (has_number s) (has_number s) f (λ x e. ap (λ n. n == s) (keep x)) sites h
    ∙ changed_so (has_number s) f (site_in sites s) (passes (any_finds (has_number s) sites h))
  where
    passes : Finds (has_number s) sites → has_number s (site_in sites s) ≡ true
    passes it = subst (λ (x : Site). has_number s x ≡ true) (sym (first_found no_site (has_number s) sites it.one it.found)) it.passes

pub other_site : (s z : ℕ) (f : Site → Site) → KeepsNumber f → (sites : List Site) → (s == z) ≡ false → site_in (change (has_number s) f sites) z ≡ site_in sites z
other_site s z f keep sites h = first_unchanged no_site (has_number z) (has_number s) f (λ x e. ap (λ n. n == z) (keep x)) (λ x e. subst (λ n. (n == z) ≡ false) (sym (number_eq x.number s e)) h) sites

-- a part of the changed site is new, and that of another the old one
pub part_step : {Y : Type 0} (g : Site → Y) (new : Y → Y) (s z : ℕ) (f : Site → Site) → KeepsNumber f → ((x : Site) → g (f x) ≡ new (g x)) → (sites : List Site) → is_there_in sites s ≡ true → (old : Y) → g (site_in sites z) ≡ old → g (site_in (change (has_number s) f sites) z) ≡ cond (s == z) (new old) old
part_step {Y} g new s z f keep does sites there old was = at (s == z) refl
  where
    at : (b : Bool) → (s == z) ≡ b → g (site_in (change (has_number s) f sites) z) ≡ cond b (new old) old
    at true h = subst (λ n. g (site_in (change (has_number s) f sites) n) ≡ new old) (number_eq s z h)
        (ap g (own_site s f keep sites there)
        ∙ (does (site_in sites s) ∙ ap new (ap (λ n. g (site_in sites n)) (number_eq s z h) ∙ was)))
    at false h = ap g (other_site s z f keep sites h) ∙ was

pub part_still : {Y : Type 0} (g : Site → Y) (s z : ℕ) (f : Site → Site) → KeepsNumber f → ((x : Site) → g (f x) ≡ g x) → (sites : List Site) → g (site_in (change (has_number s) f sites) z) ≡ g (site_in sites z)
part_still g s z f keep does sites = first_part g no_site (has_number z) (has_number s) f (λ x e. ap (λ n. n == z) (keep x)) (λ x e. does x) sites

pub numbers_still : (s : ℕ) (f : Site → Site) → KeepsNumber f → (sites : List Site) → map (λ (x : Site). x.number) (change (has_number s) f sites) ≡ map (λ (x : Site). x.number) sites
numbers_still s f keep sites = map_changed (λ (x : Site). x.number) (has_number s) f (λ x e. keep x) sites

pub change_twice : (s : ℕ) (f h : Site → Site) → KeepsNumber f → (sites : List Site) → change (has_number s) h (change (has_number s) f sites) ≡ change (has_number s) (λ x. h (f x)) sites
change_twice s f h keep [] = refl
change_twice s f h keep (x ∷ xs) = at (change_twice s f h keep xs) (x.number == s) refl
  where
    at : change (has_number s) h (change (has_number s) f xs) ≡ change (has_number s) (λ y. h (f y)) xs → (b : Bool) → (x.number == s) ≡ b → change (has_number s) h (change (has_number s) f (x ∷ xs)) ≡ change (has_number s) (λ y. h (f y)) (x ∷ xs)
    at later true e = rw e (ap (λ b. cond b (h (f x)) (f x) ∷ change (has_number s) h (change (has_number s) f xs)) (ap (λ n. n == s) (keep x) ∙ e) ∙ ap (λ ys. h (f x) ∷ ys) later)
    at later false e = rw e (rw e (ap (λ ys. x ∷ ys) later))

-- Tests as choices.

pub or_choice : (b old : Bool) → cond b true old ≡ (b || old)
or_choice true old = refl
or_choice false old = refl

pub not_choice : (b old : Bool) → cond b false old ≡ (not b && old)
not_choice true old = refl
not_choice false old = refl

pub chosen_none : {Y : Type 0} (b : Bool) (old : Option Y) → old ≡ None → cond b None old ≡ None
chosen_none true old e = refl
chosen_none false old e = e

-- where it is chosen it was so already
pub chosen_old : {Y : Type 0} (b : Bool) (new old : Y) → (b ≡ true → old ≡ new) → old ≡ cond b new old
chosen_old true new old e = e refl
chosen_old false new old e = refl
