-- Traces, the earliest record first.
use Rattle.std.specs.Prelude.{ℕ, ◌+◌, Bool, true, ◌&&◌, cond, List, [], ◌∷◌, fold, Option, None, Some}
use Rattle.locus_ids.specs.declared.config.Config.{Config}
use Rattle.trace_book.specs.declared.record.Record.{Record}
use Rattle.trace_book.specs.declared.entry.Entry.{Entry}
use Rattle.promises.specs.Past.{Past, nothing_yet}
use Rattle.promises.specs.After.{after}
use Rattle.promises.specs.Rows.{may_follow}

-- each record passes, by what those before it tell
abbrev pub each : (Past → Record → Bool) → Config → Past → List Entry → Bool
each passes c p [] = true
each passes c p (r ∷ rest) = passes p r.what && each passes c (after c r.what p) rest

-- what all records tell
abbrev pub past_of : Config → List Entry → Past
past_of c trace = fold (λ p r. after c r.what p) (nothing_yet c) trace

-- each record may follow those before it
abbrev pub is_one_tree : Config → List Entry → Bool
is_one_tree c trace = each (may_follow c) c (nothing_yet c) trace

-- the number of the first record that doesn't pass, from this number on
abbrev pub first_wrong : (Past → Record → Bool) → Config → ℕ → Past → List Entry → Option ℕ
first_wrong passes c n p [] = None
first_wrong passes c n p (r ∷ rest) = cond (passes p r.what) (first_wrong passes c (n + 1) (after c r.what p) rest) (Some n)
