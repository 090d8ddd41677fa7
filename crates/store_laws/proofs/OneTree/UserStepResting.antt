-- What a using site's steps rest on, line after line, where other laws give it of each trace; and their outcome as the one tree has it.
use Rattle.std.proofs.Common.{ℕ, List, [], ◌∷◌}
use Rattle.locus_ids.specs.declared.config.Config.{Config}
use Rattle.role_steps.specs.Views.{Frame, Outcome, Told, Users}
use Rattle.the_run.specs.Worlds.{Line, told_onto}
use Rattle.tree_laws.specs.Doing.{UsersFine, UsersInside}
use Rattle.tree_laws.specs.Following.{MayTell}
use Rattle.store_laws.specs.Users.Rests.{Follows, Staying, Steady}
use Rattle.store_laws.proofs.Users.Leaving.{all_apart}
use Rattle.store_laws.specs.OneTree.Places.{UsersOf}
use Rattle.store_laws.specs.OneTree.Rest.{AllRest, Past, RestTold, more}
use Rattle.store_laws.specs.OneTree.Roles.{CallsFine}
use Rattle.store_laws.proofs.OneTree.Staying.{stays}
use Rattle.store_laws.specs.OneTree.UserStepRests.{UserRests}

-- ---- the trace ----

-- a line that came as it may makes the past longer
pub past_more : (c : Config) (n : ℕ) (t : List Line) (x : Told) → Past c t → MayTell c t x → RestTold c t x → Past c (more n x t)
past_more c n t x past may rest = record { followed = (may, past.followed); rest = record { each = (rest, past.rest.each); packs = past.rest.packs } }

pub staying : (c : Config) → UserRests c → (n : ℕ) (t : List Line) (told : List Told) → Past c t → AllRest c n t told → Staying c n t told
staying c rests n t [] past rest = tt
staying c rests n t (x ∷ xs) past rest = λ may. (follows may, staying c rests n (more n x t) xs (past_more c n t x past may rest.0) rest.1)
  where
    follows : MayTell c t x → Follows c t (more n x t) x
    follows may = record {
      stay = (stays c).all n x t (record { past = past; may = may; rest = rest.0 });
      requests = rests.requests (more n x t) (past_more c n t x past may rest.0);
      replies = rests.replies (more n x t) (past_more c n t x past may rest.0);
    }

pub steady : (c : Config) (t : List Line) → Past c t → Steady c t
steady c [] past = tt
steady c (x ∷ older) past = ((stays c).all x.number x.told older (record { past = before; may = past.followed.0; rest = past.rest.each.0 }), steady c older before)
  where
    before : Past c older
    before = record { followed = past.followed.1; rest = record { each = past.rest.each.1; packs = past.rest.packs } }

-- ---- what the site has ----

pub users_of : (c : Config) (f : Frame) (t : List Line) (u : Users) → UsersInside c f t u → UsersOf c f t u
users_of c f t u k = record { inside = k; apart = all_apart c t f u.waiting k.inside.ascends k.inside.calls; waiting_ascends = k.inside.ascends; instances_ascend = k.inside.numbered; descriptors_ascend = k.always.ascends }

pub calls_fine : (c : Config) (n : ℕ) (t : List Line) (f : Frame) (o : Outcome Users) → UsersFine c n t f o → CallsFine c n t f o
calls_fine c n t f o k = record { told = k.told; own = k.own; view = users_of c f (told_onto n o.told t) o.view k.view; sent = k.sent; written = k.written }
