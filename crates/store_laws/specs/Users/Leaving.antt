-- What leaving an epoch tells of the calls of a site.
use Rattle.std.specs.Prelude.{ℕ, ◌≡◌, List, [], ◌∷◌}
use Rattle.locus_ids.specs.declared.config.Config.{Config}
use Rattle.role_steps.specs.Own.{Every}
use Rattle.role_steps.specs.Using.{users_leave}
use Rattle.role_steps.specs.Views.{Users, Frame}
use Rattle.role_steps.specs.declared.users.WaitingCall.{WaitingCall}
use Rattle.tree_laws.specs.of_the_run.Worlds.{Line, told_onto}
use Rattle.tree_model.specs.declared.accepted.Waiting.{Waiting}
use Rattle.tree_model.specs.Calls.{waiting}
use Rattle.tree_laws.specs.Printed.{entries}
use Rattle.tree_laws.specs.Doing.{AllTold, IsOfUsers}
use Rattle.tree_laws.specs.Users.{had, UsersFact}

-- no two of the calls have one number
abbrev pub AreApart : List WaitingCall → Type 0
AreApart [] = Unit {0}
AreApart (w ∷ ws) = Every (λ (v : WaitingCall). v.call ≡ w.call → ⊥) ws × AreApart ws

-- The calls that waited are answered, each as it may; nothing is sent, what the site counts and its descriptors stay,
-- and it has nothing else any more.
pub record LeavesFine (c : Config) (n : ℕ) (trace : List Line) (f : Frame) (u : Users) : Type 0 where
  pub told : AllTold c n trace (users_leave f.me f.boot f.epoch u).told
  pub own : Every (IsOfUsers f.me) (users_leave f.me f.boot f.epoch u).told
  pub always : UsersFact c (told_onto n (users_leave f.me f.boot f.epoch u).told trace) f.me f.boot (users_leave f.me f.boot f.epoch u).view
  pub sent : (users_leave f.me f.boot f.epoch u).sent ≡ []
  -- no call waits at the site any more, and it has no instance
  pub none_waits : Every (λ (w : Waiting). w.site ≡ f.me → ⊥) (waiting (entries (told_onto n (users_leave f.me f.boot f.epoch u).told trace)))
  pub has_none : had c (told_onto n (users_leave f.me f.boot f.epoch u).told trace) f.me ≡ []
