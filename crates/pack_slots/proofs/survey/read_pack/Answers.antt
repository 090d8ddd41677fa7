use Rattle.std.proofs.Common.{◌≡◌, ◌-◌, ◌≤◌, ◌<◌, ◌∙◌, ap, subst, sym, List, ℕ, length, get_or, arith}
use Rattle.std.specs.Prelude.{Option, sum}
use Rattle.locus_ids.specs.Sizes.{inodes_max, pack_pages}
use Rattle.pack_slots.specs.declared.inode_copy.InodeCopy.{InodeCopy}
use Rattle.pack_slots.specs.Copies.{times, named_pages, named_tables, AreCopies, AreUses}
use Rattle.pack_slots.specs.Losing.{AreFound, AreSlots}
use Rattle.pack_slots.proofs.Finding.{found_own, own_slots}
use Rattle.pack_slots.proofs.SharedPage.{least_table, least_shared, are_copies, total_fits, sound}
use Rattle.pack_slots.proofs.TablesRead.{kept_all, table_cause, slot_cause, found_seen}
use Rattle.pack_slots.proofs.survey.read_pack.Goals as goal

pub returns-in_err-read_tables-clause-fault : goal.returns-in_err-read_tables-clause-fault
returns-in_err-read_tables-clause-fault g c =
    let base = c.args.base in
    let seen = (g.D.Disk.moment c.args.disk.now).seen in
    let one = (g.D.Disk.moment c.is_pack_of.new.disk).seen in
    let two = (g.D.Disk.moment c.read_inodes.new.disk).seen in
    let inodes = c.in_ok-inodes.inodes in
    let first = c.in_ok-is_pack_of.ensures.seen in
    let second = c.in_ok-inodes.ensures.seen in
    let after = c.read_tables.new.copies in
    let named = c.in_ok-is_pack_of.ensures.is.0 c.if-not-branch.false in
    table_cause base seen one two inodes.bad inodes.copies.items c.deref_mut.result.now after inodes.losing.items first second c.deref_mut.ensures.value c.in_ok-inodes.ensures.copies (c.in_ok-inodes.ensures.found, c.in_ok-inodes.ensures.before) c.args.group c.args.site c.from_residual-in_err-read_tables.result c.in_err-read_tables.field-0.0 named c.from_residual-in_err-read_tables.ensures.1 c.in_err-read_tables.ensures.bad

pub returns-in-Some-clause-fault : goal.returns-in-Some-clause-fault
returns-in-Some-clause-fault g c =
    let base = c.args.base in
    let seen = (g.D.Disk.moment c.args.disk.now).seen in
    let one = (g.D.Disk.moment c.is_pack_of.new.disk).seen in
    let two = (g.D.Disk.moment c.read_inodes.new.disk).seen in
    let inodes = c.in_ok-inodes.inodes in
    let first = c.in_ok-is_pack_of.ensures.seen in
    let second = c.in_ok-inodes.ensures.seen in
    let after = c.read_tables.new.copies in
    let named = c.in_ok-is_pack_of.ensures.is.0 c.if-not-branch.false in
    (named, slot_cause base seen one two inodes.bad inodes.copies.items c.deref_mut.result.now after inodes.losing.items first second c.deref_mut.ensures.value c.in_ok-inodes.ensures.copies (c.in_ok-inodes.ensures.found, c.in_ok-inodes.ensures.before) c.in_ok-read_tables.ensures.read c.in-Some.ino c.in-Some.is)

pub shared_table-requires-clause-slots : goal.shared_table-requires-clause-slots
shared_table-requires-clause-slots g c =
    let base = c.args.base in
    let seen = (g.D.Disk.moment c.args.disk.now).seen in
    let one = (g.D.Disk.moment c.is_pack_of.new.disk).seen in
    let two = (g.D.Disk.moment c.read_inodes.new.disk).seen in
    let inodes = c.in_ok-inodes.inodes in
    let first = c.in_ok-is_pack_of.ensures.seen in
    let second = c.in_ok-inodes.ensures.seen in
    let after = c.read_tables.new.copies in
    let found = found_seen base seen one two inodes.bad inodes.copies.items c.deref_mut.result.now after inodes.losing.items first second c.deref_mut.ensures.value c.in_ok-inodes.ensures.copies (c.in_ok-inodes.ensures.found, c.in_ok-inodes.ensures.before) c.in_ok-read_tables.ensures.read c.in_default.is in
    let count : length after ≡ inodes_max = c.read_tables.ensures.count ∙ ap length c.deref_mut.ensures.value ∙ c.in_ok-inodes.ensures.copies in
    let kept = kept_all inodes.copies.len after c.deref_mut.result.now inodes.copies.items c.deref_mut.ensures.len c.read_tables.ensures.count in
    subst AreSlots (sym (c.deref.ensures.value ∙ kept)) (own_slots after (found_own base seen after inodes.losing.items count found))

pub returns-in-Some-shared_table-clause-fault : goal.returns-in-Some-shared_table-clause-fault
returns-in-Some-shared_table-clause-fault g c =
    let base = c.args.base in
    let seen = (g.D.Disk.moment c.args.disk.now).seen in
    let one = (g.D.Disk.moment c.is_pack_of.new.disk).seen in
    let two = (g.D.Disk.moment c.read_inodes.new.disk).seen in
    let inodes = c.in_ok-inodes.inodes in
    let first = c.in_ok-is_pack_of.ensures.seen in
    let second = c.in_ok-inodes.ensures.seen in
    let after = c.read_tables.new.copies in
    let found = found_seen base seen one two inodes.bad inodes.copies.items c.deref_mut.result.now after inodes.losing.items first second c.deref_mut.ensures.value c.in_ok-inodes.ensures.copies (c.in_ok-inodes.ensures.found, c.in_ok-inodes.ensures.before) c.in_ok-read_tables.ensures.read c.in_default.is in
    let count : length after ≡ inodes_max = c.read_tables.ensures.count ∙ ap length c.deref_mut.ensures.value ∙ c.in_ok-inodes.ensures.copies in
    let kept = kept_all inodes.copies.len after c.deref_mut.result.now inodes.copies.items c.deref_mut.ensures.len c.read_tables.ensures.count in
    let named = c.in_ok-is_pack_of.ensures.is.0 c.if-not-branch.false in
    let table = c.in-Some-shared_table.table in
    let least = subst (λ (l : List (Option InodeCopy)). (1 < times table (named_tables l)) × ((lower : ℕ) → lower < table → times lower (named_tables l) ≤ 1)) (c.deref.ensures.value ∙ kept) c.in-Some-shared_table.ensures in
    (named, least_table base seen after inodes.losing.items count found table least.0 least.1)

pub count_uses-requires-clause-slots : goal.count_uses-requires-clause-slots
count_uses-requires-clause-slots g c =
    let base = c.args.base in
    let seen = (g.D.Disk.moment c.args.disk.now).seen in
    let one = (g.D.Disk.moment c.is_pack_of.new.disk).seen in
    let two = (g.D.Disk.moment c.read_inodes.new.disk).seen in
    let inodes = c.in_ok-inodes.inodes in
    let first = c.in_ok-is_pack_of.ensures.seen in
    let second = c.in_ok-inodes.ensures.seen in
    let after = c.read_tables.new.copies in
    let found = found_seen base seen one two inodes.bad inodes.copies.items c.deref_mut.result.now after inodes.losing.items first second c.deref_mut.ensures.value c.in_ok-inodes.ensures.copies (c.in_ok-inodes.ensures.found, c.in_ok-inodes.ensures.before) c.in_ok-read_tables.ensures.read c.in_default.is in
    let count : length after ≡ inodes_max = c.read_tables.ensures.count ∙ ap length c.deref_mut.ensures.value ∙ c.in_ok-inodes.ensures.copies in
    let kept = kept_all inodes.copies.len after c.deref_mut.result.now inodes.copies.items c.deref_mut.ensures.len c.read_tables.ensures.count in
    subst AreSlots (sym (c.deref-2.ensures.value ∙ kept)) (own_slots after (found_own base seen after inodes.losing.items count found))

pub returns-in-Some-least_shared-clause-fault : goal.returns-in-Some-least_shared-clause-fault
returns-in-Some-least_shared-clause-fault g c =
    let base = c.args.base in
    let seen = (g.D.Disk.moment c.args.disk.now).seen in
    let one = (g.D.Disk.moment c.is_pack_of.new.disk).seen in
    let two = (g.D.Disk.moment c.read_inodes.new.disk).seen in
    let inodes = c.in_ok-inodes.inodes in
    let first = c.in_ok-is_pack_of.ensures.seen in
    let second = c.in_ok-inodes.ensures.seen in
    let after = c.read_tables.new.copies in
    let found = found_seen base seen one two inodes.bad inodes.copies.items c.deref_mut.result.now after inodes.losing.items first second c.deref_mut.ensures.value c.in_ok-inodes.ensures.copies (c.in_ok-inodes.ensures.found, c.in_ok-inodes.ensures.before) c.in_ok-read_tables.ensures.read c.in_default.is in
    let count : length after ≡ inodes_max = c.read_tables.ensures.count ∙ ap length c.deref_mut.ensures.value ∙ c.in_ok-inodes.ensures.copies in
    let kept = kept_all inodes.copies.len after c.deref_mut.result.now inodes.copies.items c.deref_mut.ensures.len c.read_tables.ensures.count in
    let one_table = c.deref.ensures.value ∙ kept in
    let tables : (table : ℕ) → times table (named_tables after) ≤ 1 = subst (λ (l : List (Option InodeCopy)). (table : ℕ) → times table (named_tables l) ≤ 1) one_table c.in_default-shared_table.ensures in
    let counts = c.in_ok-uses.uses.counts.items in
    let same : c.deref-2.result.now ≡ after = c.deref-2.ensures.value ∙ kept in
    let long = c.in_ok-uses.ensures.count in
    let each : (page : ℕ) → page < pack_pages → get_or counts page 0 ≡ times page (named_pages after) = λ page lt. c.in_ok-uses.ensures.each page lt ∙ ap (λ (l : List (Option InodeCopy)). times page (named_pages l)) same in
    let counted : c.deref-3.result.now ≡ counts = c.deref-3.ensures.value in
    let named = c.in_ok-is_pack_of.ensures.is.0 c.if-not-branch.false in
    let page = c.in-Some-least_shared.page in
    let least = subst (λ (l : List ℕ). (page < length l) × (1 < get_or l page 0) × ((lower : ℕ) → lower < page → get_or l lower 0 ≤ 1)) counted c.in-Some-least_shared.ensures in
    (named, least_shared base seen after inodes.losing.items count found tables counts long each page (omega (arith, least.0, long)) least.1 least.2)

pub overflow_cast-result : goal.overflow_cast-result
overflow_cast-result g c =
    let base = c.args.base in
    let seen = (g.D.Disk.moment c.args.disk.now).seen in
    let one = (g.D.Disk.moment c.is_pack_of.new.disk).seen in
    let two = (g.D.Disk.moment c.read_inodes.new.disk).seen in
    let inodes = c.in_ok-inodes.inodes in
    let first = c.in_ok-is_pack_of.ensures.seen in
    let second = c.in_ok-inodes.ensures.seen in
    let after = c.read_tables.new.copies in
    let found = found_seen base seen one two inodes.bad inodes.copies.items c.deref_mut.result.now after inodes.losing.items first second c.deref_mut.ensures.value c.in_ok-inodes.ensures.copies (c.in_ok-inodes.ensures.found, c.in_ok-inodes.ensures.before) c.in_ok-read_tables.ensures.read c.in_default.is in
    let count : length after ≡ inodes_max = c.read_tables.ensures.count ∙ ap length c.deref_mut.ensures.value ∙ c.in_ok-inodes.ensures.copies in
    let kept = kept_all inodes.copies.len after c.deref_mut.result.now inodes.copies.items c.deref_mut.ensures.len c.read_tables.ensures.count in
    let one_table = c.deref.ensures.value ∙ kept in
    let tables : (table : ℕ) → times table (named_tables after) ≤ 1 = subst (λ (l : List (Option InodeCopy)). (table : ℕ) → times table (named_tables l) ≤ 1) one_table c.in_default-shared_table.ensures in
    let counts = c.in_ok-uses.uses.counts.items in
    let same : c.deref-2.result.now ≡ after = c.deref-2.ensures.value ∙ kept in
    let long = c.in_ok-uses.ensures.count in
    let each : (page : ℕ) → page < pack_pages → get_or counts page 0 ≡ times page (named_pages after) = λ page lt. c.in_ok-uses.ensures.each page lt ∙ ap (λ (l : List (Option InodeCopy)). times page (named_pages l)) same in
    let counted : c.deref-3.result.now ≡ counts = c.deref-3.ensures.value in
    let once : (page : ℕ) → page < pack_pages → get_or counts page 0 ≤ 1 = λ page lt. subst (λ (l : List ℕ). (n : ℕ) → n < length l → get_or l n 0 ≤ 1) counted c.in_default-least_shared.ensures page (omega (arith, lt, long)) in
    let whole : sum counts ≡ length (named_pages after) = c.in_ok-uses.ensures.sum ∙ ap (λ (l : List (Option InodeCopy)). length (named_pages l)) same in
    let all : c.in_ok-uses.uses.total ≡ length (named_pages after) = c.in_ok-uses.ensures.total ∙ ap (λ (l : List (Option InodeCopy)). length (named_pages l)) same in
    let fits = total_fits base seen after inodes.losing.items count found tables counts long each once whole in
    omega (arith, fits, all)

pub overflow_sub-result : goal.overflow_sub-result
overflow_sub-result g c =
    let base = c.args.base in
    let seen = (g.D.Disk.moment c.args.disk.now).seen in
    let one = (g.D.Disk.moment c.is_pack_of.new.disk).seen in
    let two = (g.D.Disk.moment c.read_inodes.new.disk).seen in
    let inodes = c.in_ok-inodes.inodes in
    let first = c.in_ok-is_pack_of.ensures.seen in
    let second = c.in_ok-inodes.ensures.seen in
    let after = c.read_tables.new.copies in
    let found = found_seen base seen one two inodes.bad inodes.copies.items c.deref_mut.result.now after inodes.losing.items first second c.deref_mut.ensures.value c.in_ok-inodes.ensures.copies (c.in_ok-inodes.ensures.found, c.in_ok-inodes.ensures.before) c.in_ok-read_tables.ensures.read c.in_default.is in
    let count : length after ≡ inodes_max = c.read_tables.ensures.count ∙ ap length c.deref_mut.ensures.value ∙ c.in_ok-inodes.ensures.copies in
    let kept = kept_all inodes.copies.len after c.deref_mut.result.now inodes.copies.items c.deref_mut.ensures.len c.read_tables.ensures.count in
    let one_table = c.deref.ensures.value ∙ kept in
    let tables : (table : ℕ) → times table (named_tables after) ≤ 1 = subst (λ (l : List (Option InodeCopy)). (table : ℕ) → times table (named_tables l) ≤ 1) one_table c.in_default-shared_table.ensures in
    let counts = c.in_ok-uses.uses.counts.items in
    let same : c.deref-2.result.now ≡ after = c.deref-2.ensures.value ∙ kept in
    let long = c.in_ok-uses.ensures.count in
    let each : (page : ℕ) → page < pack_pages → get_or counts page 0 ≡ times page (named_pages after) = λ page lt. c.in_ok-uses.ensures.each page lt ∙ ap (λ (l : List (Option InodeCopy)). times page (named_pages l)) same in
    let counted : c.deref-3.result.now ≡ counts = c.deref-3.ensures.value in
    let once : (page : ℕ) → page < pack_pages → get_or counts page 0 ≤ 1 = λ page lt. subst (λ (l : List ℕ). (n : ℕ) → n < length l → get_or l n 0 ≤ 1) counted c.in_default-least_shared.ensures page (omega (arith, lt, long)) in
    let whole : sum counts ≡ length (named_pages after) = c.in_ok-uses.ensures.sum ∙ ap (λ (l : List (Option InodeCopy)). length (named_pages l)) same in
    let all : c.in_ok-uses.uses.total ≡ length (named_pages after) = c.in_ok-uses.ensures.total ∙ ap (λ (l : List (Option InodeCopy)). length (named_pages l)) same in
    let fits = total_fits base seen after inodes.losing.items count found tables counts long each once whole in
    omega (arith, fits, all)

pub returns-clause-sound : goal.returns-clause-sound
returns-clause-sound g c =
    let base = c.args.base in
    let seen = (g.D.Disk.moment c.args.disk.now).seen in
    let one = (g.D.Disk.moment c.is_pack_of.new.disk).seen in
    let two = (g.D.Disk.moment c.read_inodes.new.disk).seen in
    let inodes = c.in_ok-inodes.inodes in
    let first = c.in_ok-is_pack_of.ensures.seen in
    let second = c.in_ok-inodes.ensures.seen in
    let after = c.read_tables.new.copies in
    let found = found_seen base seen one two inodes.bad inodes.copies.items c.deref_mut.result.now after inodes.losing.items first second c.deref_mut.ensures.value c.in_ok-inodes.ensures.copies (c.in_ok-inodes.ensures.found, c.in_ok-inodes.ensures.before) c.in_ok-read_tables.ensures.read c.in_default.is in
    let count : length after ≡ inodes_max = c.read_tables.ensures.count ∙ ap length c.deref_mut.ensures.value ∙ c.in_ok-inodes.ensures.copies in
    let kept = kept_all inodes.copies.len after c.deref_mut.result.now inodes.copies.items c.deref_mut.ensures.len c.read_tables.ensures.count in
    let one_table = c.deref.ensures.value ∙ kept in
    let tables : (table : ℕ) → times table (named_tables after) ≤ 1 = subst (λ (l : List (Option InodeCopy)). (table : ℕ) → times table (named_tables l) ≤ 1) one_table c.in_default-shared_table.ensures in
    let counts = c.in_ok-uses.uses.counts.items in
    let same : c.deref-2.result.now ≡ after = c.deref-2.ensures.value ∙ kept in
    let long = c.in_ok-uses.ensures.count in
    let each : (page : ℕ) → page < pack_pages → get_or counts page 0 ≡ times page (named_pages after) = λ page lt. c.in_ok-uses.ensures.each page lt ∙ ap (λ (l : List (Option InodeCopy)). times page (named_pages l)) same in
    let counted : c.deref-3.result.now ≡ counts = c.deref-3.ensures.value in
    let once : (page : ℕ) → page < pack_pages → get_or counts page 0 ≤ 1 = λ page lt. subst (λ (l : List ℕ). (n : ℕ) → n < length l → get_or l n 0 ≤ 1) counted c.in_default-least_shared.ensures page (omega (arith, lt, long)) in
    let named = c.in_ok-is_pack_of.ensures.is.0 c.if-not-branch.false in
    sound base seen after inodes.losing.items count found tables counts long each c.args.group c.args.site named once

pub returns-clause-found : goal.returns-clause-found
returns-clause-found g c =
    let base = c.args.base in
    let seen = (g.D.Disk.moment c.args.disk.now).seen in
    let one = (g.D.Disk.moment c.is_pack_of.new.disk).seen in
    let two = (g.D.Disk.moment c.read_inodes.new.disk).seen in
    let inodes = c.in_ok-inodes.inodes in
    let first = c.in_ok-is_pack_of.ensures.seen in
    let second = c.in_ok-inodes.ensures.seen in
    let after = c.read_tables.new.copies in
    let found = found_seen base seen one two inodes.bad inodes.copies.items c.deref_mut.result.now after inodes.losing.items first second c.deref_mut.ensures.value c.in_ok-inodes.ensures.copies (c.in_ok-inodes.ensures.found, c.in_ok-inodes.ensures.before) c.in_ok-read_tables.ensures.read c.in_default.is in
    let count : length after ≡ inodes_max = c.read_tables.ensures.count ∙ ap length c.deref_mut.ensures.value ∙ c.in_ok-inodes.ensures.copies in
    let kept = kept_all inodes.copies.len after c.deref_mut.result.now inodes.copies.items c.deref_mut.ensures.len c.read_tables.ensures.count in
    subst (λ (l : List (Option InodeCopy)). AreFound base inodes_max seen l inodes.losing.items) (sym kept) found

pub returns-clause-copies : goal.returns-clause-copies
returns-clause-copies g c =
    let base = c.args.base in
    let seen = (g.D.Disk.moment c.args.disk.now).seen in
    let one = (g.D.Disk.moment c.is_pack_of.new.disk).seen in
    let two = (g.D.Disk.moment c.read_inodes.new.disk).seen in
    let inodes = c.in_ok-inodes.inodes in
    let first = c.in_ok-is_pack_of.ensures.seen in
    let second = c.in_ok-inodes.ensures.seen in
    let after = c.read_tables.new.copies in
    let found = found_seen base seen one two inodes.bad inodes.copies.items c.deref_mut.result.now after inodes.losing.items first second c.deref_mut.ensures.value c.in_ok-inodes.ensures.copies (c.in_ok-inodes.ensures.found, c.in_ok-inodes.ensures.before) c.in_ok-read_tables.ensures.read c.in_default.is in
    let count : length after ≡ inodes_max = c.read_tables.ensures.count ∙ ap length c.deref_mut.ensures.value ∙ c.in_ok-inodes.ensures.copies in
    let kept = kept_all inodes.copies.len after c.deref_mut.result.now inodes.copies.items c.deref_mut.ensures.len c.read_tables.ensures.count in
    let one_table = c.deref.ensures.value ∙ kept in
    let tables : (table : ℕ) → times table (named_tables after) ≤ 1 = subst (λ (l : List (Option InodeCopy)). (table : ℕ) → times table (named_tables l) ≤ 1) one_table c.in_default-shared_table.ensures in
    let counts = c.in_ok-uses.uses.counts.items in
    let same : c.deref-2.result.now ≡ after = c.deref-2.ensures.value ∙ kept in
    let long = c.in_ok-uses.ensures.count in
    let each : (page : ℕ) → page < pack_pages → get_or counts page 0 ≡ times page (named_pages after) = λ page lt. c.in_ok-uses.ensures.each page lt ∙ ap (λ (l : List (Option InodeCopy)). times page (named_pages l)) same in
    let counted : c.deref-3.result.now ≡ counts = c.deref-3.ensures.value in
    let once : (page : ℕ) → page < pack_pages → get_or counts page 0 ≤ 1 = λ page lt. subst (λ (l : List ℕ). (n : ℕ) → n < length l → get_or l n 0 ≤ 1) counted c.in_default-least_shared.ensures page (omega (arith, lt, long)) in
    subst AreCopies (sym kept) (are_copies base seen after inodes.losing.items count found tables counts long each once)

pub returns-clause-uses : goal.returns-clause-uses
returns-clause-uses g c =
    let base = c.args.base in
    let seen = (g.D.Disk.moment c.args.disk.now).seen in
    let one = (g.D.Disk.moment c.is_pack_of.new.disk).seen in
    let two = (g.D.Disk.moment c.read_inodes.new.disk).seen in
    let inodes = c.in_ok-inodes.inodes in
    let first = c.in_ok-is_pack_of.ensures.seen in
    let second = c.in_ok-inodes.ensures.seen in
    let after = c.read_tables.new.copies in
    let found = found_seen base seen one two inodes.bad inodes.copies.items c.deref_mut.result.now after inodes.losing.items first second c.deref_mut.ensures.value c.in_ok-inodes.ensures.copies (c.in_ok-inodes.ensures.found, c.in_ok-inodes.ensures.before) c.in_ok-read_tables.ensures.read c.in_default.is in
    let count : length after ≡ inodes_max = c.read_tables.ensures.count ∙ ap length c.deref_mut.ensures.value ∙ c.in_ok-inodes.ensures.copies in
    let kept = kept_all inodes.copies.len after c.deref_mut.result.now inodes.copies.items c.deref_mut.ensures.len c.read_tables.ensures.count in
    let one_table = c.deref.ensures.value ∙ kept in
    let tables : (table : ℕ) → times table (named_tables after) ≤ 1 = subst (λ (l : List (Option InodeCopy)). (table : ℕ) → times table (named_tables l) ≤ 1) one_table c.in_default-shared_table.ensures in
    let counts = c.in_ok-uses.uses.counts.items in
    let same : c.deref-2.result.now ≡ after = c.deref-2.ensures.value ∙ kept in
    let long = c.in_ok-uses.ensures.count in
    let each : (page : ℕ) → page < pack_pages → get_or counts page 0 ≡ times page (named_pages after) = λ page lt. c.in_ok-uses.ensures.each page lt ∙ ap (λ (l : List (Option InodeCopy)). times page (named_pages l)) same in
    let counted : c.deref-3.result.now ≡ counts = c.deref-3.ensures.value in
    let once : (page : ℕ) → page < pack_pages → get_or counts page 0 ≤ 1 = λ page lt. subst (λ (l : List ℕ). (n : ℕ) → n < length l → get_or l n 0 ≤ 1) counted c.in_default-least_shared.ensures page (omega (arith, lt, long)) in
    let whole : sum counts ≡ length (named_pages after) = c.in_ok-uses.ensures.sum ∙ ap (λ (l : List (Option InodeCopy)). length (named_pages l)) same in
    let all : c.in_ok-uses.uses.total ≡ length (named_pages after) = c.in_ok-uses.ensures.total ∙ ap (λ (l : List (Option InodeCopy)). length (named_pages l)) same in
    let fits = total_fits base seen after inodes.losing.items count found tables counts long each once whole in
    subst (λ (l : List (Option InodeCopy)). AreUses l counts (pack_pages - c.in_ok-uses.uses.total)) (sym kept) (record { count = long; each = each; rest = omega (arith, fits, all) })
