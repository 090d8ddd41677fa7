use Rattle.std.proofs.Common.{◌≡◌, ◌<◌, ◌≤◌, ◌+◌, ◌++◌, ℕ, List, length, get_or, take, take_all, ⊎_elim, sym, ◌∙◌, ap, arith, subst}
use Rattle.std.specs.Prelude.{Option, None, Some, MatchOption}
use Rattle.std.proofs.lemmas.List.{get_or-replicate}
use Rattle.locus_ids.specs.Sizes.{pack_tables}
use Rattle.pack_slots.specs.declared.inode_copy.InodeCopy.{InodeCopy}
use Rattle.pack_slots.specs.Copies.{tables_in, named_tables, times}
use Rattle.pack_slots.specs.Losing.{AreSlots}
use Rattle.pack_slots.proofs.Times.{named_more, sum-zeros, times_beyond, named_tables_below}
use Rattle.std.proofs.lemmas.Bool.{cases_lt}
use Rattle.pack_slots.proofs.PageTimes.{times-append}
use Rattle.pack_slots.proofs.uses.shared_table.Goals as goal

pub loop-copy-init : goal.loop-copy-init
loop-copy-init c = record {
  each = λ table lt. get_or-replicate pack_tables table 0 0 lt;
  few = let e = sum-zeros pack_tables in omega arith;
}

pub loop-copy-preserved : goal.loop-copy-preserved
loop-copy-preserved c =
    let inv = c.loop-copy.invariant in
    let i = c.loop-copy.copy-index in
    let copies = c.args.copies.now in
    let copy = c.copy-item.result in
    let tables = c.tables_in.result.now in
    let more : named_tables (take (i + 1) copies) ≡ named_tables (take i copies) ++ tables = named_more tables_in copies i copy c.loop-copy-test.true c.copy-item.is ∙ ap (λ (l : List ℕ). named_tables (take i copies) ++ l) (sym c.tables_in.ensures.tables) in
    record {
      each = λ table lt. omega (arith, inv.each table lt, c.count_pages.ensures.each table (omega arith), ap (times table) more, times-append table (named_tables (take i copies)) tables);
      few = omega (arith, inv.few, c.count_pages.ensures.sum, c.tables_in.ensures.few);
    }

-- what is counted twice is named twice
shared : (o : Option ℕ) (counts : List ℕ) (copies : List (Option InodeCopy)) → AreSlots copies → length counts ≡ pack_tables → ((table : ℕ) → table < pack_tables → get_or counts table 0 ≡ times table (named_tables copies))
    → MatchOption o ((n : ℕ) → n < length counts → get_or counts n 0 ≤ 1) (λ n. (n < length counts) × (1 < get_or counts n 0) × ((lower : ℕ) → lower < n → get_or counts lower 0 ≤ 1))
    → MatchOption o ((table : ℕ) → times table (named_tables copies) ≤ 1) (λ table. (1 < times table (named_tables copies)) × ((lower : ℕ) → lower < table → times lower (named_tables copies) ≤ 1))
shared None counts copies are long each all = λ table. ⊎_elim
    (λ (lt : table < pack_tables). omega (arith, each table lt, all table (omega arith)))
    (λ (le : pack_tables ≤ table). omega (arith, times_beyond table pack_tables (named_tables copies) (named_tables_below copies are) le))
    (cases_lt table pack_tables)
shared (Some n) counts copies are long each found =
    let inside = found.0 in
    (omega (arith, each n (omega arith), found.1), λ lower less. omega (arith, each lower (omega arith), found.2 lower less))

pub returns : goal.returns
returns c =
    let i = c.loop-copy.copy-index in
    let copies = c.args.copies.now in
    let all : take i copies ≡ copies = take_all i copies (omega arith) in
    let each = subst (λ (l : List (Option InodeCopy)). (table : ℕ) → table < pack_tables → get_or c.loop-copy.counts table 0 ≡ times table (named_tables l)) all c.loop-copy.invariant.each in
    shared c.least_shared.result c.loop-copy.counts copies c.requires.slots (omega arith) each c.least_shared.ensures
