-- Tables of a site whose groups rise, joins that agree, and who synchronizes a group in an epoch that it has joined.
use Rattle.std.specs.Prelude.{◌≡◌, ℕ, nat_lt, true, List, [], ◌∷◌, Option, Some}
use Rattle.locus_ids.specs.declared.ids.EpochId.{EpochId}
use Rattle.locus_ids.specs.declared.sites.Members.{Members}
use Rattle.locus_ids.specs.declared.config.Config.{Config}
use Rattle.role_steps.specs.Own.{Every}
use Rattle.role_steps.specs.Views.{Told, sync_site}
use Rattle.role_steps.specs.declared.synchronizing.SyncTable.{SyncTable}
use Rattle.site_laws.specs.Locks.Joins.{WasJoined, JoinsAreOnce}

abbrev pub Rising : List SyncTable → Type 0
Rising [] = Unit {0}
Rising (t ∷ ts) = Every (λ (u : SyncTable). nat_lt t.group u.group ≡ true) ts × Rising ts

-- of whichever sites, two joins of one id have the same members
abbrev pub OneTold : List Told → Type 0
OneTold past = (s t : ℕ) (id : EpochId) (m n : Members) → WasJoined past s id m → WasJoined past t id n → m ≡ n

pub record Orderly (past : List Told) : Type 0 where
  pub once : JoinsAreOnce past
  pub one : OneTold past

-- each plain grant is of the synchronization site of its group in an epoch that it has joined
pub record SyncedBy (c : Config) (past : List Told) (e : EpochId) (group : ℕ) (s : ℕ) : Type 0 where
  pub members : Members
  pub joined : WasJoined past s e members
  pub synced : sync_site c members group ≡ Some s
