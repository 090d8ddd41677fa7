-- A script in code: the words of a call, where it began, and what its requests were answered so far.
use Rattle.std.specs.Prelude.{ℕ, List, []}
use Rattle.trace_book.specs.declared.call.Call.{Call}
use Rattle.trace_book.specs.declared.call.Call.TheVariants as call
use Rattle.trace_book.specs.declared.descriptor.Beginning.{Beginning}
use Rattle.call_rules.specs.declared.answer.Answer.{Answer}

pub record Scripted : Type 0 where
  pub words : Call
  pub begins : Beginning
  pub answers : List Answer

-- the path of a call, and no bytes where it has none
abbrev pub path_of : Call → List ℕ
path_of (call.Create path sites) = path
path_of (call.MakeDir path) = path
path_of (call.Unlink path) = path
path_of (call.RemoveDir path) = path
path_of (call.Rename path name) = path
path_of (call.List path) = path
path_of (call.Stat path) = path
path_of (call.Mail path bytes) = path
path_of (call.Mails path) = path
path_of (call.Open path mode) = path
path_of _ = []
