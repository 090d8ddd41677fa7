-- Definitions compute.
use Rattle.std.proofs.Common.{◌≡◌, refl, List, [], ◌∷◌, true, false, Some, None}
use Rattle.locus_ids.specs.declared.ids.Kind.TheVariants.{File}
use Rattle.trace_book.specs.declared.operation.Op.TheVariants as op
use Rattle.trace_book.specs.declared.operation.Outcome.TheVariants.{Done}
use Rattle.std.specs.Prelude.{codes}
use Rattle.dir_format.specs.declared.entry.Entry.{Entry}
use Rattle.dir_format.specs.Entries.{nothing_seen, with_entry}
use Rattle.dir_format.specs.Grammar.{dir_bytes}
use Rattle.dir_format.specs.Contents.{entries_of}
use Rattle.dir_format.specs.declared.looking.LookResult.TheVariants.{Ambiguous}
use Rattle.dir_format.specs.Lookups.{lookup, shown_names}
use Rattle.dir_format.specs.Effects.{dir_effect, live_entry}

abbrev a2 : Entry
a2 = live_entry (codes "a") 2 File 1

one : entries_of (1 ∷ 97 ∷ 0 ∷ 2 ∷ 1 ∷ 0 ∷ 0 ∷ 0 ∷ 1 ∷ []) ≡ a2 ∷ []
one = refl

another_kind : entries_of (1 ∷ 97 ∷ 0 ∷ 2 ∷ 3 ∷ 0 ∷ 0 ∷ 0 ∷ 1 ∷ []) ≡ []
another_kind = refl

abbrev both : List Entry
both = with_entry (live_entry (codes "n") 129 File 1) (with_entry (live_entry (codes "n") 2 File 1) [])

again : entries_of (dir_bytes both) ≡ both
again = refl

two : lookup both (codes "n") ≡ Ambiguous 2 129
two = refl

shows : shown_names (a2 ∷ []) ≡ codes "a" ∷ []
shows = refl

-- there and back: the pair is revived
abbrev away : List Entry
away = record { name = codes "a"; ino = 2; kind = File; count = 2; seen = nothing_seen } ∷ live_entry (codes "b") 2 File 1 ∷ []

renamed : dir_effect (op.Rename (codes "a") (codes "b")) [] (a2 ∷ []) ≡ Some (record { outcome = Done; entries = away; counts = true; spent = false })
renamed = refl

back : dir_effect (op.Rename (codes "b") (codes "a")) [] away ≡ Some (record { outcome = Done; entries = live_entry (codes "a") 2 File 3 ∷ record { name = codes "b"; ino = 2; kind = File; count = 2; seen = nothing_seen } ∷ []; counts = true; spent = false })
back = refl

unlawful : dir_effect (op.Insert (codes "a") 2 File) [] away ≡ None
unlawful = refl
