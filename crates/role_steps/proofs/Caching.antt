-- What becomes of the pages in memory leaves all else that a using site has.
use Rattle.std.proofs.Common.{ℕ, List, Option, None, Some}
use Rattle.wire_messages.specs.of_trace_book.declared.operation.Op.TheVariants as op
use Rattle.wire_messages.specs.of_trace_book.declared.operation.Outcome.{Outcome as Result}
use Rattle.wire_messages.specs.of_trace_book.declared.operation.Outcome.TheVariants as result
use Rattle.page_cache.specs.Cached.{CachedPages}
use Rattle.page_cache.specs.Parts.{with_part}
use Rattle.page_cache.specs.declared.part.Part.{Part}
use Rattle.role_steps.specs.Views.{Users}
use Rattle.role_steps.specs.Requests.{user_instance}
use Rattle.role_steps.specs.Using.{keeps_brought, keeps_part, part_of_instance}
use Rattle.role_steps.specs.declared.users.Asking.{Asking}
use Rattle.role_steps.specs.declared.users.Asking.TheVariants as asking

part_only : (P : Users → Type 0) (bytes : List ℕ) (p : Option Part) (u : Users) → ((pages : CachedPages) → P (record u { cache = pages })) → P (keeps_part bytes p u)
part_only P bytes None u h = h u.cache
part_only P bytes (Some p) u h = h (with_part p bytes u.cache)

-- what holds of users with any pages holds of them when the pages of an answer are kept
pub kept_only : (P : Users → Type 0) (k : Asking) (r : Result) (u : Users) → ((pages : CachedPages) → P (record u { cache = pages })) → P (keeps_brought k r u)
kept_only P (asking.Op s ss n (op.Read at len) seen) (result.Data bytes) u h = part_only P bytes (part_of_instance at len (user_instance u s)) u h
kept_only P k r u h = h u.cache
