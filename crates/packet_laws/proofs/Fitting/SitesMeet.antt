-- What a site does in its epoch asks and answers members of it: a law by kinds.
use Rattle.std.proofs.Common.{◌≡◌, ◌^◌, ◌<◌, ℕ, List, Option, Some, None, refl, sym, subst}
use Rattle.locus_ids.specs.declared.config.Config.{Config}
use Rattle.trace_book.specs.declared.call.Call.{Call}
use Rattle.wire_messages.specs.declared.packet.Packet.{Packet}
use Rattle.wire_messages.specs.declared.body.Body.{Body}
use Rattle.wire_messages.specs.declared.body.Body.TheVariants as body
use Rattle.role_steps.specs.Own.{Every}
use Rattle.role_steps.specs.Views.{Frame, SiteView, Outcome, quiet, packet}
use Rattle.role_steps.specs.Epochs.{frame_in}
use Rattle.role_steps.specs.Using.{on_call}
use Rattle.role_steps.specs.declared.rounds.InEpoch.{InEpoch}
use Rattle.the_run.specs.Steps.{takes_framed, adopts_of, tries_at, starts_mends_of, repeats_inside, call_frame, epoch_id, takes_call}
use Rattle.the_run.proofs.Boots.{every_weaker}
use Rattle.run_laws.specs.Walks.Kinds.{IsOfTable, IsStoreRequest, IsOfStore, IsOfReader, IsStoreAnswer, IsUserRequest, IsOfUser}
use Rattle.run_laws.specs.Walks.Laws.{Law, SiteKeeps, SiteAnswers, Stays}
use Rattle.run_laws.proofs.Walks.RoleWalks.{on_call_walk}
use Rattle.run_laws.proofs.Walks.SiteWalks.{adopts_of_walk, tries_walk, mends_of_walk, framed_walk, repeats_inside_walk}
use Rattle.run_laws.specs.Naming.{IsInEpoch}
use Rattle.run_laws.proofs.InsideSteps.{call_inner}
use Rattle.packet_laws.specs.Fitting.Fields.{AreBoots}
use Rattle.packet_laws.proofs.Fitting.Meeting.{IsNoAnswer, IsListed, MeetsNone, Meets, LookMeets, TableMeets, MeetingSite, listed_site, meets_none, meets_listed, sync_listed}

-- ---- the law, kind by kind ----

table_meets_none : (b : Body) → IsOfTable b → MeetsNone b
table_meets_none (body.OpenSs inst file mode set kind base vector parents) h = tt
table_meets_none (body.OpenDone serial answer) h = tt
table_meets_none (body.LookSs us call process request take file what serve) h = tt
table_meets_none (body.LookDone call request take answer) h = tt
table_meets_none (body.Notify file kind set size stamp vector holder) h = tt
table_meets_none _ h = absurd h

store_meets_none : (b : Body) → IsOfStore b → MeetsNone b
store_meets_none (body.OpDone serial n result) h = tt
store_meets_none (body.AsHeld serial n len) h = tt
store_meets_none (body.CloseDone serial answer) h = tt
store_meets_none _ h = absurd h

reader_meets_none : (b : Body) → IsOfReader b → MeetsNone b
reader_meets_none (body.LookDone call request take answer) h = tt
reader_meets_none (body.Pull file stamp page) h = tt
reader_meets_none (body.Want file wanted own) h = tt
reader_meets_none _ h = absurd h

user_meets_none : (b : Body) → IsOfUser b → MeetsNone b
user_meets_none (body.Op serial n o seen) h = tt
user_meets_none (body.ReadHeld serial n at len) h = tt
user_meets_none (body.Close serial) h = tt
user_meets_none _ h = absurd h

store_request_asks : (b : Body) → IsStoreRequest b → IsNoAnswer b
store_request_asks (body.ReportOk group) h = h
store_request_asks _ h = tt

store_answer_other : (b : Body) → IsStoreAnswer b → IsNoAnswer b
store_answer_other (body.ReportOk group) h = h
store_answer_other _ h = tt

user_request_asks : (b : Body) → IsUserRequest b → IsNoAnswer b
user_request_asks (body.ReportOk group) h = h
user_request_asks _ h = tt

abbrev meeting : Law
meeting = record { sent = Meets; told = λ t. Unit {0}; written = λ w. Unit {0}; look = LookMeets; table = TableMeets }

keeps : (f : Frame) (fit : AreBoots f.members.boot) → SiteKeeps meeting f
keeps f fit = record {
  tables = record {
    sends = λ to b h. meets_none (packet f to b) b (table_meets_none b h);
    tells = λ t h. tt;
    unwritten = tt;
    keeps = λ l h. table_meets_none l.body h;
    repeats = λ l h. meets_none (packet f l.to l.body) l.body h;
    looks = λ t h. h.0;
    tables = λ t u h e k. (k, subst (λ (g : ℕ). g < 2 ^ 8) (sym e) h.1);
  };
  stores = record {
    asks = λ group to b h e. meets_listed f fit to b (store_request_asks b h) (sync_listed f group to e);
    sends = λ to b h. meets_none (packet f to b) b (store_meets_none b h);
    tells = λ t h. tt;
    reads = record { sends = λ to b h. meets_none (packet f to b) b (reader_meets_none b h); unwritten = tt };
    unwritten = tt;
  };
  versions = record { tells = λ r h. tt; writes = λ d h. tt };
  users = record {
    asks = λ group to b h e. meets_listed f fit to b (user_request_asks b h) (sync_listed f group to e);
    sends = λ to b h. meets_none (packet f to b) b (user_meets_none b h);
    tells = λ t h. tt;
    unwritten = tt;
  };
}

-- what answers a member
back : (f : Frame) (fit : AreBoots f.members.boot) (from : ℕ) → IsListed f.members.boot from → SiteAnswers meeting f from
back f fit from listed = record {
  tables = record {
    reported = λ t h. (listed_site f.members.boot from fit listed, h.1);
    closed = λ inst. meets_listed f fit from (body.ClosedOk inst) tt listed;
  };
  stores = λ b h. meets_listed f fit from b (store_answer_other b h) listed;
}

-- ---- the epoch that a site is in ----

-- its members
abbrev pub FitsIn : Option InEpoch → Type 0
FitsIn None = Unit {0}
FitsIn (Some e) = AreBoots e.members.boot

-- the packet is from one of them
abbrev pub FromMember : Option InEpoch → ℕ → Type 0
FromMember None from = Unit {0}
FromMember (Some e) from = IsListed e.members.boot from

kept_in : (c : Config) (me boot : ℕ) (e : Option InEpoch) (x : InEpoch) → FitsIn e → e ≡ Some x → SiteKeeps meeting (frame_in c me boot x)
kept_in c me boot e x fit is = keeps (frame_in c me boot x) (subst FitsIn is fit)

back_in : (c : Config) (me boot from : ℕ) (e : Option InEpoch) (x : InEpoch) → FitsIn e → FromMember e from → e ≡ Some x → SiteAnswers meeting (frame_in c me boot x) from
back_in c me boot from e x fit listed is = back (frame_in c me boot x) (subst FitsIn is fit) from (subst (λ (o : Option InEpoch). FromMember o from) is listed)

-- ---- what is sent again ----

pub inside_meets : (f : Frame) (fit : AreBoots f.members.boot) (e : InEpoch) (v : SiteView) → Every Meets (repeats_inside f e v)
inside_meets f fit e v = repeats_inside_walk meeting f (keeps f fit) e v

-- ---- the site ----

met : (v : SiteView) (o : Outcome SiteView) → Stays meeting v o → MeetingSite v o
met v o h = record { installs = h.leaves.installs; tables = h.tables; sent = h.part.0 }

pub meeting_quiet : (v : SiteView) → Every TableMeets v.tables → MeetingSite v (quiet v)
meeting_quiet v h = record { installs = refl; tables = h; sent = tt }

pub adopts_of_meet : (c : Config) (me : ℕ) (e : Option InEpoch) (v : SiteView) → FitsIn e → Every TableMeets v.tables → MeetingSite v (adopts_of c me e v)
adopts_of_meet c me e v fit ok = met v (adopts_of c me e v) (adopts_of_walk meeting c me e v tt (λ x is. kept_in c me v.boot e x fit is) ok)

pub tries_meet : (c : Config) (me : ℕ) (x : Body) (v : SiteView) → FitsIn v.epoch → Every TableMeets v.tables → MeetingSite v (tries_at c me x v)
tries_meet c me x v fit ok = met v (tries_at c me x v) (tries_walk meeting c me x v tt (λ e is. kept_in c me v.boot v.epoch e fit is) ok)

pub mends_of_meet : (c : Config) (me : ℕ) (e : Option InEpoch) (v : SiteView) → FitsIn e → Every TableMeets v.tables → MeetingSite v (starts_mends_of c me e v)
mends_of_meet c me e v fit ok = met v (starts_mends_of c me e v) (mends_of_walk meeting c me e v tt (λ x is. kept_in c me v.boot e x fit is) ok)

pub framed_meet : (c : Config) (me : ℕ) (p : Packet) (e : Option InEpoch) (v : SiteView) → FitsIn e → FromMember e p.from → Every TableMeets v.tables → MeetingSite v (takes_framed c me p e v)
framed_meet c me p e v fit listed ok = met v (takes_framed c me p e v) (framed_walk meeting c me p e v tt (λ x is. kept_in c me v.boot e x fit is) (λ x is. back_in c me v.boot p.from e x fit listed is) ok)

-- ---- calls ----

nothing_meets : (ps : List Packet) → Every (IsInEpoch None) ps → Every Meets ps
nothing_meets ps h = every_weaker (IsInEpoch None) Meets ps (λ p k. absurd k) h

call_sent_meet : (c : Config) (me process : ℕ) (words : Call) (v : SiteView) (e : Option InEpoch) → FitsIn e → Every (IsInEpoch e) (on_call (call_frame c me v.boot e) (epoch_id e) process words v.users).sent → Every Meets (on_call (call_frame c me v.boot e) (epoch_id e) process words v.users).sent
call_sent_meet c me process words v None fit inside = nothing_meets _ inside
call_sent_meet c me process words v (Some e) fit inside = (on_call_walk meeting (frame_in c me v.boot e) (keeps (frame_in c me v.boot e) fit).users (Some e.id) process words v.users (λ n. tt)).0

pub call_meet : (c : Config) (me process : ℕ) (words : Call) (v : SiteView) → FitsIn v.epoch → Every TableMeets v.tables → MeetingSite v (takes_call c me process words v)
call_meet c me process words v fit ok = record { installs = refl; tables = ok; sent = call_sent_meet c me process words v v.epoch fit (call_inner c me process words v).sent }
