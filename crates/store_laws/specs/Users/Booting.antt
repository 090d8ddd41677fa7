-- A using site that has just booted.
use Rattle.std.specs.Prelude.{[]}
use Rattle.role_steps.specs.Views.{Users}

-- no call was accepted, and nothing is had
abbrev pub no_users : Users
no_users = record { calls = 0; serials = 0; waiting = []; instances = []; descriptors = []; hopeless = []; cache = [] }
