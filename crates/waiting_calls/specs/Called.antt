-- A call in code, and the call that it stands for while it waits.
use Rattle.std.specs.Prelude.{List, ◌∷◌, [], ◌++◌, ℕ, Option, None, Some}
use Rattle.role_steps.specs.declared.users.Asking.{Asking}
use Rattle.role_steps.specs.declared.users.WaitingCall.{WaitingCall}
use Rattle.waiting_calls.specs.declared.caller.Caller.{Caller}

-- the call, with its current request
abbrev pub called : Caller → Asking → WaitingCall
called c a = record {
  process = c.process;
  call = c.call;
  words = c.script.words;
  begins = c.script.begins;
  answers = c.script.answers;
  request = c.request;
  asking = a;
  brought = c.brought.items;
  copied = c.copied;
}

-- the call, with one content more where there is one
abbrev pub with_content : Option (List ℕ) → WaitingCall → WaitingCall
with_content None w = w
with_content (Some bytes) w = record w { brought = w.brought ++ bytes ∷ [] }
