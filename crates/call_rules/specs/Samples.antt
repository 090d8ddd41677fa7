-- A small cluster and some words, to see what the rules say of them.
use Rattle.std.specs.Prelude.{ℕ, ◌==◌, true, cond, List, [], ◌∷◌, Option, None, Some, codes}
use Rattle.trace_book.specs.of_locus_ids.declared.ids.CallId.{CallId}
use Rattle.trace_book.specs.of_locus_ids.declared.ids.EpochId.{EpochId}
use Rattle.trace_book.specs.of_locus_ids.declared.ids.FileId.{FileId}
use Rattle.trace_book.specs.of_locus_ids.declared.ids.Mode.TheVariants as mode
use Rattle.trace_book.specs.of_locus_ids.declared.ids.Serial.{Serial}
use Rattle.trace_book.specs.of_locus_ids.declared.config.Mount.{Mount}
use Rattle.trace_book.specs.declared.call.Call.{Call}
use Rattle.trace_book.specs.declared.descriptor.Descriptor.{Descriptor}
use Rattle.trace_book.specs.declared.descriptor.OneVersion.{OneVersion}
use Rattle.call_rules.specs.declared.answer.Answer.{Answer}
use Rattle.call_rules.specs.declared.want.Want.{Want}
use Rattle.call_rules.specs.Descriptors.{beginning}
use Rattle.call_rules.specs.Scripts.{wants}

-- group 1 stands on `usr`
abbrev pub usr : List Mount
usr = record { group = 1; name = codes "usr" } ∷ []

abbrev pub first_epoch : EpochId
first_epoch = record { number = 1; site = 1; boot = 1 }

abbrev pub first_call : CallId
first_call = record { site = 1; boot = 1; n = 1 }

abbrev pub no_descriptors : ℕ → Option Descriptor
no_descriptors fd = None

-- what a call asks, of a process without descriptors in the first epoch, where every group is packed
abbrev pub asks : Call → List Answer → Want
asks words answers = wants usr (λ group. true) (Some 0) words (beginning no_descriptors (Some first_epoch) first_call words) answers

abbrev pub file : ℕ → ℕ → FileId
file group ino = record { group = group; ino = ino }

abbrev pub inst : ℕ → Serial
inst n = record { us = 1; serial = n }

-- Steady reading: descriptor 0 keeps the first version of a file, and an instance of an earlier epoch held it last.

abbrev pub earlier_epoch : EpochId
earlier_epoch = record { number = 1; site = 1; boot = 0 }

abbrev pub version : ℕ → OneVersion
version n = record { file = file 0 2; stamp = record { site = 1; n = n } }

abbrev pub one_steady : ℕ → Option Descriptor
one_steady fd = cond (fd == 0) (Some (record { mode = mode.Read; epoch = earlier_epoch; inst = inst 1; steady = Some (version 1) })) None

-- what a call asks of a process with this descriptor alone
abbrev pub asks_steadily : Option EpochId → Call → List Answer → Want
asks_steadily now words answers = wants usr (λ group. true) (Some 1) words (beginning one_steady now first_call words) answers
