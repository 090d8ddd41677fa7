-- The sites of a past as a list, what is asked of one of them, and what becomes of it.
use Rattle.std.specs.Prelude.{ℕ, ◌≡◌, ◌+◌, ◌==◌, true, false, not, ◌&&◌, List, [], ◌∷◌, length, filter, map, Option, None, Some}
use Rattle.std.specs.List.{find}
use Rattle.std.specs.Option.{option_map}
use Rattle.locus_ids.specs.declared.ids.EpochId.{EpochId}
use Rattle.commit_graph.specs.Versions.{same_file}
use Rattle.commit_graph.specs.Vectors.{numbers_from}
use Rattle.trace_book.specs.declared.call.Call.{Call}
use Rattle.trace_book.specs.declared.descriptor.Descriptor.{Descriptor}
use Rattle.call_rules.specs.Walks.{root_of}
use Rattle.tree_model.specs.Histories.{format_stamp}
use Rattle.promises.specs.Past.{Site, Copy, Named, first_or, no_site}
use Rattle.promises.specs.After.{change, held_by, is_freed}

-- The list.

-- the row of the site of this number; of another number, that of no site
abbrev pub row_of : List Site → ℕ → Site
row_of rows site = first_or no_site (λ (s : Site). s.number == site) rows

-- the sites are numbered from 1 on
abbrev pub IsNumbered : List Site → Type 0
IsNumbered rows = map (λ (s : Site). s.number) rows ≡ numbers_from 1 (length rows)

-- the rows with the site of this number changed
abbrev pub with_site : ℕ → (Site → Site) → List Site → List Site
with_site site f rows = change (λ (s : Site). s.number == site) f rows

-- the root directory of a group, as its packs are formatted
abbrev pub first_copy : ℕ → Copy
first_copy group = record { file = root_of group; stamp = format_stamp }

-- What is asked of a site.

-- what the numbers of a process stand for there
abbrev pub named_at : Site → ℕ → ℕ → Option Descriptor
named_at s process fd = option_map (λ (d : Named). d.names) (find (λ (d : Named). (d.process == process) && (d.fd == fd)) s.descriptors)

-- What becomes of a site.

abbrev pub boots : ℕ → Site → Site
boots boot s = record s { up = true; boot = boot; joined = None; accepted = 0 }

abbrev pub stops : Site → Site
stops s = record s { up = false; descriptors = [] }

abbrev pub leaves : Site → Site
leaves s = record s { epoch = None }

abbrev pub joins : EpochId → Site → Site
joins e s = record s { epoch = Some e; joined = Some e }

-- one more call is accepted, which frees its number where it is a close
abbrev pub accepts : ℕ → Call → Site → Site
accepts process words s = record s { accepted = s.accepted + 1; descriptors = filter (λ d. not (is_freed words process d)) s.descriptors }

-- a number of a process stands for what it named by no number before
abbrev pub names : Named → Site → Site
names new s = record s { descriptors = new ∷ s.descriptors }

-- a read of a steady descriptor makes it held by the instance that this opening stands for
abbrev pub holds_again : ℕ → ℕ → Descriptor → Site → Site
holds_again process fd opening s = record s { descriptors = change (λ (d : Named). (d.process == process) && (d.fd == fd)) (held_by (Some opening)) s.descriptors }

-- the site has this version of its file in place of another
abbrev pub takes : Copy → Site → Site
takes new s = record s { held = new ∷ filter (λ (v : Copy). not (same_file v.file new.file)) s.held }
