-- A mend that asks something has been answered little: it looks at each version that was kept when it opened its directory.
use Rattle.std.proofs.Common.{◌≤◌, ℕ, ◌+◌, Bool, List, [], ◌∷◌, length, Option, arith}
use Rattle.locus_ids.specs.declared.config.Mount.{Mount}
use Rattle.locus_ids.specs.declared.ids.FileId.{FileId}
use Rattle.locus_ids.specs.declared.ids.Serial.{Serial}
use Rattle.locus_ids.specs.declared.ids.Stamp.{Stamp}
use Rattle.locus_ids.specs.declared.refusal.Refusal.{Refusal}
use Rattle.trace_book.specs.declared.call.Call.TheVariants as call
use Rattle.trace_book.specs.declared.descriptor.Beginning.{Beginning}
use Rattle.trace_book.specs.declared.descriptor.Beginning.TheVariants.{Denied, Uses, Walks, Reopens, Frees}
use Rattle.call_rules.specs.Closing.{Unchanged, give_up}
use Rattle.call_rules.specs.Mending.{after_mend, brings, mend_wants}
use Rattle.call_rules.specs.Opening.{close_wants}
use Rattle.call_rules.specs.Scripts.{wants, where_packed}
use Rattle.call_rules.specs.declared.answer.Answer.{Answer}
use Rattle.call_rules.specs.declared.answer.Answer.TheVariants.{Brought, Did, Ended, Merging, Refused}
use Rattle.call_rules.specs.declared.want.Want.{Want}
use Rattle.call_rules.specs.declared.want.Want.TheVariants as want
use Rattle.row_laws.specs.Bounds.Requests.{IsRequest}

-- the answer tells no more kept versions than this
abbrev pub TellsFew : ℕ → Answer → Type 0
TellsFew most (Merging i kept) = length kept ≤ most
TellsFew most _ = Unit {0}

-- no more were kept where a mend opened its directory
abbrev pub BringsFew : ℕ → List Answer → Type 0
BringsFew most [] = Unit {0}
BringsFew most (a ∷ rest) = TellsFew most a

close_few : (i : Serial) (rest : List Answer) → IsRequest (close_wants i rest) → length rest ≤ 0
close_few i [] q = omega arith
close_few i (Ended stamp ∷ []) q = absurd q
close_few i (Ended stamp ∷ b ∷ rest) q = absurd q
close_few i (Refused why ∷ []) q = absurd q
close_few i (Refused why ∷ b ∷ rest) q = absurd q
close_few i (_ ∷ rest) q = absurd q

up_few : (i : Serial) (why : Refusal) (rest : List Answer) → IsRequest (give_up (Unchanged i ∷ []) why rest) → length rest ≤ 0
up_few i why [] q = omega arith
up_few i why (Ended stamp ∷ []) q = absurd q
up_few i why (Ended stamp ∷ b ∷ rest) q = absurd q
up_few i why (Refused other ∷ []) q = absurd q
up_few i why (Refused other ∷ b ∷ rest) q = absurd q
up_few i why (_ ∷ rest) q = absurd q

after_few : (i : Serial) (answers : List Answer) → IsRequest (after_mend i answers) → length answers ≤ 1
after_few i [] q = omega arith
after_few i (Did o ∷ rest) q = let k : length rest ≤ 0 = close_few i rest q in omega (arith, k)
after_few i (Refused why ∷ rest) q = let k : length rest ≤ 0 = up_few i why rest q in omega (arith, k)
after_few i (_ ∷ rest) q = absurd q

brings_few : (i : Serial) (file : FileId) (stamps : List Stamp) (answers : List Answer) → IsRequest (brings i file stamps answers) → length answers ≤ length stamps + 1
brings_few i file [] answers q = let k : length answers ≤ 1 = after_few i answers q in omega (arith, k)
brings_few i file (stamp ∷ stamps) [] q = omega arith
brings_few i file (stamp ∷ stamps) (Brought ∷ rest) q = let k : length rest ≤ length stamps + 1 = brings_few i file stamps rest q in omega (arith, k)
brings_few i file (stamp ∷ stamps) (Refused why ∷ rest) q = let k : length rest ≤ 0 = up_few i why rest q in omega (arith, k)
brings_few i file (stamp ∷ stamps) (_ ∷ rest) q = absurd q

mend_few : (file : FileId) (most : ℕ) (answers : List Answer) → BringsFew most answers → IsRequest (mend_wants file answers) → length answers + 1 ≤ most + 3
mend_few file most [] few q = omega arith
mend_few file most (Merging i kept ∷ rest) few q = let k : length rest ≤ length kept + 1 = brings_few i file kept rest q in omega (arith, k, few)
mend_few file most (Refused why ∷ []) few q = absurd q
mend_few file most (Refused why ∷ b ∷ rest) few q = absurd q
mend_few file most (_ ∷ rest) few q = absurd q

packed_asks : (packed : ℕ → Bool) (w : Want) → IsRequest (where_packed packed w) → IsRequest w
packed_asks packed (want.Give r) q = q
packed_asks packed want.Never q = q
packed_asks packed w q = tt

pub mends_few : (mounts : List Mount) (packed : ℕ → Bool) (free : Option ℕ) (file : FileId) (b : Beginning) (most : ℕ) (answers : List Answer) → BringsFew most answers → IsRequest (wants mounts packed free (call.Mend file) b answers) → length answers + 1 ≤ most + 3
mends_few mounts packed free file (Denied why) most answers few q = absurd q
mends_few mounts packed free file (Uses epoch inst) most answers few q = absurd q
mends_few mounts packed free file (Reopens kept last) most answers few q = absurd q
mends_few mounts packed free file Frees most answers few q = absurd q
mends_few mounts packed free file (Walks id) most answers few q = mend_few file most answers few (packed_asks packed (mend_wants file answers) q)
