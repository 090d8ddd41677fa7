-- The descriptors of a process, by their rows, as a function of their numbers.
use Rattle.std.specs.Prelude.{ℕ, List, Option}
use Rattle.trace_book.specs.declared.descriptor.Descriptor.{Descriptor}
use Rattle.role_steps.specs.Tables.{row}
use Rattle.role_steps.specs.Requests.{descriptor_in, descriptor_key, fd_key}
use Rattle.role_steps.specs.declared.users.DescriptorRow.{DescriptorRow}

abbrev pub numbered : List DescriptorRow → ℕ → ℕ → Option Descriptor
numbered rows process fd = descriptor_in (row descriptor_key (fd_key process fd) rows)
