-- A reply answers one call, which waits; and a release ends one instance.
use Rattle.std.proofs.Common.{◌≡◌, ℕ, ◌==◌, ◌&&◌, ◌||◌, Bool, true, false, cond, List, [], ◌∷◌, ◌++◌, filter, Option, Some, refl, ap}
use Rattle.std.specs.Prelude.{fold}
use Rattle.std.specs.List.{find, list_any}
use Rattle.locus_ids.specs.declared.config.Config.{Config}
use Rattle.locus_ids.specs.declared.sites.Members.{Members}
use Rattle.locus_ids.specs.declared.ids.CallId.{CallId}
use Rattle.locus_ids.specs.declared.ids.EpochId.{EpochId}
use Rattle.locus_ids.specs.declared.ids.Stamp.{Stamp}
use Rattle.trace_book.specs.declared.record.Record.TheVariants as rec
use Rattle.trace_book.specs.declared.reply.Reply.{Reply}
use Rattle.promises.specs.Past.{Past, CallSoFar, Instance, unformed}
use Rattle.promises.specs.After.{is_id, is_epoch, change, replied_to, told_by, answered, close_answer, with_epoch}
use Rattle.promises.specs.Rows.{may_follow, waits_at, is_scripted, is_changed}
use Rattle.past_laws.proofs.Names.{both_parts, call_eq, number_eq}
use Rattle.past_laws.proofs.Changing.{any_finds, Finds}
use Rattle.past_laws.proofs.CallsLists.{each_found, one_passes}
use Rattle.row_lists.proofs.ByPlace.{kept_finds}
use Rattle.audit_laws.specs.Tidy.Calls.{CallStands, CallsStand}

-- the call that a reply answers
pub record AnswersOne (c : Config) (p : Past) (site process : ℕ) (id : CallId) (r : Reply) : Type 0 where
  pub call : CallSoFar
  pub only : filter (is_id id) p.calls ≡ call ∷ []
  pub found : find (is_id id) p.calls ≡ Some call
  pub is_it : call.id ≡ id
  pub waits : call.waits ≡ true
  pub site_is : call.id.site ≡ site
  pub process_is : call.process ≡ process
  pub ways : (is_scripted c p call r || is_changed p call r) ≡ true
  pub told : told_by c (rec.Answer site process id r) p ≡ replied_to r call p
  pub stands : CallStands p.sites call

pub answers_one : (c : Config) (p : Past) (site process : ℕ) (id : CallId) (r : Reply) → CallsStand p.sites p.calls → may_follow c p (rec.Answer site process id r) ≡ true → AnswersOne c p site process id r
answers_one c p site process id r stand may = of (any_finds test p.calls may)
  where
    test : CallSoFar → Bool
    test k = is_id id k && (waits_at site process k && (is_scripted c p k r || is_changed p k r))

    of : Finds test p.calls → AnswersOne c p site process id r
    of it = (let first : (is_id id it.one ≡ true) × ((waits_at site process it.one && (is_scripted c p it.one r || is_changed p it.one r)) ≡ true) = both_parts (is_id id it.one) (waits_at site process it.one && (is_scripted c p it.one r || is_changed p it.one r)) it.passes in
        let second : (waits_at site process it.one ≡ true) × ((is_scripted c p it.one r || is_changed p it.one r) ≡ true) = both_parts (waits_at site process it.one) (is_scripted c p it.one r || is_changed p it.one r) first.1 in
        let third : (it.one.waits ≡ true) × (((it.one.id.site == site) && (it.one.process == process)) ≡ true) = both_parts it.one.waits ((it.one.id.site == site) && (it.one.process == process)) second.0 in
        let fourth : ((it.one.id.site == site) ≡ true) × ((it.one.process == process) ≡ true) = both_parts (it.one.id.site == site) (it.one.process == process) third.1 in
        let only : filter (is_id id) p.calls ≡ it.one ∷ [] = one_passes (is_id id) test p.calls it.one (stand.once id) it.found first.0 in
        record {
          call = it.one;
          only = only;
          found = kept_finds (is_id id) p.calls it.one only;
          is_it = call_eq it.one.id id first.0;
          waits = third.0;
          site_is = number_eq it.one.id.site site fourth.0;
          process_is = number_eq it.one.process process fourth.1;
          ways = second.1;
          told = ap (fold (λ (old : Past) (k : CallSoFar). replied_to r k old) p) only;
          stands = (each_found (CallStands p.sites) test p.calls it.one it.found stand.each).0;
        })

-- a release changes the answers of calls alone, before its instance ends
pub closed_as : (which : CallSoFar → Bool) (stamp : Option Stamp) (p : Past) (xs : List Instance)
    → fold (λ (old : Past) (x : Instance). answered which (close_answer stamp x) old) p xs ≡ record p { calls = fold (λ (ks : List CallSoFar) (x : Instance). change which (λ (k : CallSoFar). record k { answers = k.answers ++ close_answer stamp x ∷ [] }) ks) p.calls xs }
closed_as which stamp p [] = refl
closed_as which stamp p (x ∷ xs) = closed_as which stamp (answered which (close_answer stamp x) p) xs

-- an epoch that is listed anew changes nothing else
pub epoch_sites : (e : EpochId) (members : Members) (p : Past) → (with_epoch e members p).sites ≡ p.sites
epoch_sites e members p = at (list_any (is_epoch e) p.epochs)
  where
    at : (b : Bool) → (cond b p (record p { epochs = record (unformed e) { members = members } ∷ p.epochs })).sites ≡ p.sites
    at true = refl
    at false = refl

pub epoch_calls : (e : EpochId) (members : Members) (p : Past) → (with_epoch e members p).calls ≡ p.calls
epoch_calls e members p = at (list_any (is_epoch e) p.epochs)
  where
    at : (b : Bool) → (cond b p (record p { epochs = record (unformed e) { members = members } ∷ p.epochs })).calls ≡ p.calls
    at true = refl
    at false = refl
