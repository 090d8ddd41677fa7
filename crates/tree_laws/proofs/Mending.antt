-- A mend was accepted at the site that synchronizes its group in its epoch.
use Rattle.std.proofs.Common.{◌≡◌, ℕ, Bool, true, false, cond, List, [], ◌∷◌, Option, Some, None, refl, sym, ◌∙◌, ap, subst}
use Rattle.the_run.proofs.of_plain_facts.Options.{some_same}
use Rattle.locus_ids.specs.declared.config.Config.{Config}
use Rattle.locus_ids.specs.declared.ids.CallId.{CallId}
use Rattle.locus_ids.specs.declared.ids.EpochId.{EpochId}
use Rattle.locus_ids.specs.declared.ids.FileId.{FileId}
use Rattle.trace_book.specs.Same.{same_call}
use Rattle.trace_book.specs.declared.call.Call.{Call}
use Rattle.trace_book.specs.declared.call.Call.TheVariants as call
use Rattle.trace_book.specs.declared.record.Record.{Record}
use Rattle.trace_book.specs.declared.record.Record.TheVariants as says
use Rattle.the_run.specs.of_role_steps.Views.{Told, Shown}
use Rattle.the_run.specs.Worlds.{Line}
use Rattle.lawful_trace.specs.of_tree_model.declared.accepted.Waiting.{Waiting}
use Rattle.lawful_trace.specs.of_tree_model.Calls.{call_named, accepted_as}
use Rattle.lawful_trace.specs.of_tree_model.Epochs.{epoch_of, members_of}
use Rattle.lawful_trace.specs.of_tree_model.Packs.{sync_site}
use Rattle.tree_laws.specs.Printed.{entries, onto_entries}
use Rattle.tree_laws.specs.Following.{MayTell, IsFollowed}
use Rattle.tree_laws.proofs.Fresh.{IsListed, call_listed}
use Rattle.tree_laws.proofs.Scripts.{members_same}

abbrev With : ℕ → Told → List Line → List Line
With n x older = record { number = n; told = x } ∷ older

-- the members of a listed epoch stay, whatever is told
pub members_stay : (c : Config) (n : ℕ) (x : Told) (older : List Line) (e : EpochId) → MayTell c older x → IsListed (entries older) e → members_of (onto_entries n x (entries older)) e ≡ members_of (entries older) e
members_stay c n (Shown r) older e may h = members_same c n r (entries older) e may.row h
members_stay c n _ older e may h = refl

abbrev AtSync : Config → List Line → Type 0
AtSync c t = (d : CallId) (w : Waiting) (e : EpochId) (file : FileId) → call_named (entries t) d ≡ Some w → w.epoch ≡ Some e → w.words ≡ call.Mend file → sync_site c file.group (members_of (entries t) e) ≡ Some w.site

-- the site of a call that was accepted before
sync_old : (c : Config) (n : ℕ) (x : Told) (older : List Line) (d : CallId) (w : Waiting) (e : EpochId) (file : FileId) → MayTell c older x → AtSync c older → call_named (entries older) d ≡ Some w → w.epoch ≡ Some e → w.words ≡ call.Mend file → sync_site c file.group (members_of (onto_entries n x (entries older)) e) ≡ Some w.site
sync_old c n x older d w e file may k named made words = ap (sync_site c file.group) (members_stay c n x older e may (call_listed older d w e named made)) ∙ k d w e file named made words

mend_is : (f g : FileId) → call.Mend f ≡ call.Mend g → f ≡ g
mend_is f g e = cc

some_words : (words : Call) (file : FileId) → words ≡ call.Mend file → (c : Config) (n s process : ℕ) (new : CallId) (older : List Line) (e : EpochId) → MayTell c older (Shown (says.Accept s process new words)) → epoch_of (entries older) s ≡ Some e → sync_site c file.group (members_of (entries older) e) ≡ Some s
some_words (call.Mend f) file is c n s process new older e may inside = subst (λ (g : FileId). sync_site c g.group (members_of (entries older) e) ≡ Some s) (mend_is f file is)
    (subst (λ (y : EpochId). sync_site c f.group (members_of (entries older) y) ≡ Some s) (some_same may.row.epoch e (sym may.row.inside ∙ inside)) may.row.synchronizes)
some_words (call.Open path how) file is c n s process new older e may inside = cc
some_words (call.Read fd at len) file is c n s process new older e may inside = cc
some_words (call.Write fd at bytes) file is c n s process new older e may inside = cc
some_words (call.Cut fd len) file is c n s process new older e may inside = cc
some_words (call.Commit fd) file is c n s process new older e may inside = cc
some_words (call.Abort fd) file is c n s process new older e may inside = cc
some_words (call.Close fd) file is c n s process new older e may inside = cc
some_words (call.Create path sites) file is c n s process new older e may inside = cc
some_words (call.MakeDir path) file is c n s process new older e may inside = cc
some_words (call.Unlink path) file is c n s process new older e may inside = cc
some_words (call.RemoveDir path) file is c n s process new older e may inside = cc
some_words (call.Rename path name) file is c n s process new older e may inside = cc
some_words (call.List path) file is c n s process new older e may inside = cc
some_words (call.Stat path) file is c n s process new older e may inside = cc
some_words (call.Mail path bytes) file is c n s process new older e may inside = cc
some_words (call.Mails path) file is c n s process new older e may inside = cc

sync_accept : (c : Config) (n s process : ℕ) (new : CallId) (words : Call) (older : List Line) → MayTell c older (Shown (says.Accept s process new words)) → AtSync c older → AtSync c (With n (Shown (says.Accept s process new words)) older)
sync_accept c n s process new words older may k d w e file named made is = over (same_call new d) named
  where
    it : Waiting
    it = accepted_as (entries older) s process new words

    own : it ≡ w → sync_site c file.group (members_of (entries older) e) ≡ Some w.site
    own same = some_words words file (ap (λ (x : Waiting). x.words) same ∙ is) c n s process new older e may (ap (λ (x : Waiting). x.epoch) same ∙ made) ∙ ap (λ (x : Waiting). Some x.site) same

    over : (b : Bool) → cond b (Some it) (call_named (entries older) d) ≡ Some w → sync_site c file.group (members_of (entries older) e) ≡ Some w.site
    over true h = own (some_same it w h)
    over false h = k d w e file h made is

sync_record : (c : Config) (n : ℕ) (r : Record) (older : List Line) → MayTell c older (Shown r) → AtSync c older → AtSync c (With n (Shown r) older)
sync_record c n (says.Accept s process new words) older may k d w e file named made is = sync_accept c n s process new words older may k d w e file named made is
sync_record c n r older may k d w e file named made is = sync_old c n (Shown r) older d w e file may k named made is

sync_told : (c : Config) (n : ℕ) (x : Told) (older : List Line) → MayTell c older x → AtSync c older → AtSync c (With n x older)
sync_told c n (Shown r) older may k = sync_record c n r older may k
sync_told c n _ older may k = k

pub mends_at_sync : (c : Config) (trace : List Line) → IsFollowed c trace → (d : CallId) (w : Waiting) (e : EpochId) (file : FileId) → call_named (entries trace) d ≡ Some w → w.epoch ≡ Some e → w.words ≡ call.Mend file → sync_site c file.group (members_of (entries trace) e) ≡ Some w.site
mends_at_sync c [] h d w e file named made is = absurd (none named)
  where
    none : ◌≡◌ {A = Option Waiting} None (Some w) → ⊥
    none k = cc
mends_at_sync c (x ∷ older) h d w e file named made is = sync_told c x.number x.told older h.0 (mends_at_sync c older h.1) d w e file named made is
