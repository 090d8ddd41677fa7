use Rattle.std.proofs.Common.{◌≡◌, ◌≤◌, ◌<◌, ◌∙◌, ⊎_elim, true, false, ℕ, Bool, sym, ap, arith}
use Rattle.std.specs.Prelude.{not, slice_index_or}
use Rattle.std.proofs.lemmas.Bool.{cases_lt}
use Rattle.std.proofs.lemmas.List.{get_or_default}
use Rattle.locus_ids.specs.Sizes.{pack_tables}
use Rattle.new_contents.proofs.Counting.{none_passes}
use Rattle.inode_pack.proofs.new_tables.next_free.Goals as goal

pub returns-clause-low : goal.returns-clause-low
returns-clause-low c = absurd (none_passes (λ t. not (slice_index_or c.args.used.now t true)) c.args.from c.loop-table.table pack_tables c.loop-table-test.false (λ k low high. ap (λ (b : Bool). not b) (c.loop-table.invariant k low high)) c.requires.some)

pub returns-clause-inside : goal.returns-clause-inside
returns-clause-inside c = absurd (none_passes (λ t. not (slice_index_or c.args.used.now t true)) c.args.from c.loop-table.table pack_tables c.loop-table-test.false (λ k low high. ap (λ (b : Bool). not b) (c.loop-table.invariant k low high)) c.requires.some)

pub returns-clause-free : goal.returns-clause-free
returns-clause-free c = absurd (none_passes (λ t. not (slice_index_or c.args.used.now t true)) c.args.from c.loop-table.table pack_tables c.loop-table-test.false (λ k low high. ap (λ (b : Bool). not b) (c.loop-table.invariant k low high)) c.requires.some)

pub loop-table-preserved : goal.loop-table-preserved
loop-table-preserved c k low high = ⊎_elim
    (λ (less : k < c.loop-table.table). c.loop-table.invariant k low less)
    (λ (ge : c.loop-table.table ≤ k).
    let at : c.from.result ≡ k = omega arith in
    get_or_default c.args.used.now k true false (omega arith) ∙ ap (λ (j : ℕ). slice_index_or c.args.used.now j false) (sym at) ∙ c.if-not-used-from.false)
    (cases_lt k c.loop-table.table)
