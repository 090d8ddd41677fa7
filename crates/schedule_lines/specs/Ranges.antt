-- The ranges of the operands, each as a test that computes. Nothing here depends on other lines but the number of sites.
use Rattle.std.specs.Prelude.{ℕ, ◌^◌, ◌==◌, Bool, true, false, not, ◌&&◌, List, length, min, nat_le, nat_lt, Option, None, Some, ◌-◌}
use Rattle.std.specs.List.{list_all}
use Rattle.trace_book.specs.of_locus_ids.Sizes.{sites_max, file_bytes_max, descriptor_span}
use Rattle.trace_book.specs.of_locus_ids.declared.sites.Sites.{Sites}
use Rattle.trace_book.specs.declared.call.Call.{Call}
use Rattle.trace_book.specs.declared.call.Call.TheVariants as call
use Rattle.trace_book.specs.declared.call.OpenMode.{OpenMode}
use Rattle.trace_book.specs.declared.call.OpenMode.TheVariants as how
use Rattle.schedule_lines.specs.declared.line.Leave.{Leave}
use Rattle.schedule_lines.specs.declared.line.Leave.TheVariants as leave
use Rattle.schedule_lines.specs.declared.line.Line.{Line}
use Rattle.schedule_lines.specs.declared.line.Line.TheVariants as line

-- the number is at least low and at most high
abbrev pub is_between : ℕ → ℕ → ℕ → Bool
is_between low high n = nat_le low n && nat_le n high

-- one of sites 1 to n; no cluster has more than 16
abbrev pub is_site : ℕ → ℕ → Bool
is_site n site = is_between 1 (min n sites_max) site

-- some of sites 1 to n
abbrev pub is_some_sites : ℕ → Sites → Bool
is_some_sites n set = nat_lt 0 set.0 && nat_lt set.0 (2 ^ min n sites_max)

-- a word: one or more printing bytes, none of them a space
abbrev pub is_word_byte : ℕ → Bool
is_word_byte c = is_between 33 126 c

abbrev pub is_word : List ℕ → Bool
is_word word = nat_lt 0 (length word) && list_all is_word_byte word

abbrev pub is_byte : ℕ → Bool
is_byte b = nat_lt b 256

abbrev pub is_descriptor : ℕ → Bool
is_descriptor fd = nat_le fd (descriptor_span - 1)

-- the sites that a new file's copies are for, where the call names them
abbrev pub fits_copies : ℕ → Option Sites → Bool
fits_copies n None = true
fits_copies n (Some set) = is_some_sites n set

abbrev pub fits_mode : ℕ → OpenMode → Bool
fits_mode n how.Read = true
fits_mode n how.Write = true
fits_mode n (how.Resolve site) = is_site n site
fits_mode n how.Steady = true

-- the operands of a call of a process are in range, in a cluster of n sites; no process calls mend
abbrev pub fits_call : ℕ → Call → Bool
fits_call n (call.Create path sites) = is_word path && fits_copies n sites
fits_call n (call.MakeDir path) = is_word path
fits_call n (call.Unlink path) = is_word path
fits_call n (call.RemoveDir path) = is_word path
fits_call n (call.Rename path name) = is_word path && is_word name
fits_call n (call.List path) = is_word path
fits_call n (call.Stat path) = is_word path
fits_call n (call.Mail path bytes) = is_word path && is_between 1 4096 (length bytes) && list_all is_byte bytes
fits_call n (call.Mails path) = is_word path
fits_call n (call.Open path mode) = is_word path && fits_mode n mode
fits_call n (call.Read fd at len) = is_descriptor fd && nat_le at file_bytes_max && nat_le len 4096
fits_call n (call.Write fd at bytes) = is_descriptor fd && nat_le at file_bytes_max && is_between 1 4096 (length bytes) && list_all is_byte bytes
fits_call n (call.Cut fd len) = is_descriptor fd && nat_le len file_bytes_max
fits_call n (call.Commit fd) = is_descriptor fd
fits_call n (call.Abort fd) = is_descriptor fd
fits_call n (call.Close fd) = is_descriptor fd
fits_call n (call.Mend file) = false

abbrev pub fits_leave : Leave → Bool
fits_leave leave.Old = true
fits_leave leave.New = true
fits_leave (leave.Byte byte) = is_byte byte

-- the number of a packet
abbrev pub is_packet : ℕ → Bool
is_packet packet = is_between 1 1000000 packet

-- two sites of the cluster
abbrev pub are_two_sites : ℕ → ℕ → ℕ → Bool
are_two_sites n one other = is_site n one && is_site n other && not (one == other)

-- the operands of an event line are in range, in a cluster of n sites
abbrev pub fits_event : ℕ → Line → Bool
fits_event n (line.Call site process call) = is_site n site && is_between 1 8 process && fits_call n call
fits_event n (line.Deliver packet) = is_packet packet
fits_event n (line.Lose packet) = is_packet packet
fits_event n (line.Tick site) = is_site n site
fits_event n (line.Down one other) = are_two_sites n one other
fits_event n (line.Up one other) = are_two_sites n one other
fits_event n (line.Part site) = is_site n site
fits_event n (line.Merge site) = is_site n site
fits_event n (line.GiveUp site) = is_site n site
fits_event n (line.Stop site) = is_site n site
fits_event n (line.ArmStop site calls leave) = is_site n site && nat_le calls 1000000 && fits_leave leave
fits_event n (line.ArmFail site calls) = is_site n site && nat_le calls 1000000
fits_event n (line.Boot site) = is_site n site
fits_event n (line.Settle most) = is_between 1 1000000 most
fits_event n line.Pending = true
