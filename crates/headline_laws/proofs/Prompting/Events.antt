-- Each reply that an event of a site tells is the one that is to be given, and stands where it may.
use Rattle.std.proofs.Common.{◌≡◌, ℕ, ◌≤◌, List, [], ◌∷◌, ◌++◌, length, Option, None, Some, sym, subst, inl, inr}
use Rattle.locus_ids.specs.declared.config.Config.{Config}
use Rattle.locus_ids.specs.declared.sites.Links.{Links}
use Rattle.trace_book.specs.declared.call.Call.{Call}
use Rattle.role_steps.specs.Epochs.{frame_in, leaves_of}
use Rattle.role_steps.specs.Using.{on_call}
use Rattle.role_steps.specs.Views.{Event, SiteView, Told}
use Rattle.role_steps.specs.declared.rounds.InEpoch.{InEpoch}
use Rattle.the_run.specs.Steps.{call_frame, epoch_id, step}
use Rattle.the_run.specs.Worlds.{Line, told_onto}
use Rattle.tree_laws.specs.Doing.{AllTold}
use Rattle.tree_laws.specs.Following.{IsFollowed}
use Rattle.calm_laws.specs.of_store_laws.OneTree.Places.{AllAt, InsideFact, SiteFact, SiteIn}
use Rattle.calm_laws.specs.of_store_laws.OneTree.Roles.{EventFact, MayCall}
use Rattle.calm_laws.specs.of_store_laws.Users.Turning.{IsNumbered}
use Rattle.calm_laws.proofs.of_store_laws.OneTree.Composing.{at_append}
use Rattle.calm_laws.proofs.of_store_laws.OneTree.UserStepCalling.{process_above, words_low}
use Rattle.headline_laws.proofs.Prompting.Calling.{called_facts}
use Rattle.headline_laws.proofs.Prompting.Facts.{ToldFact}
use Rattle.headline_laws.proofs.Prompting.Leaving.{leave_facts}
use Rattle.headline_laws.proofs.Prompting.Mended.{mild_facts}
use Rattle.headline_laws.proofs.Prompting.Outside.{refused_facts}
use Rattle.headline_laws.proofs.Prompting.Splits.{Head, Splits, step_splits}
use Rattle.headline_laws.proofs.Prompting.Taking.{taken_facts}

-- ---- what is told, part by part ----

pub told_first : (c : Config) (n : ℕ) (xs ys : List Told) (t : List Line) → AllTold c n t (xs ++ ys) → AllTold c n t xs
told_first c n [] ys t h = tt
told_first c n (x ∷ xs) ys t h = (h.0, told_first c n xs ys (record { number = n; told = x } ∷ t) h.1)

pub told_last : (c : Config) (n : ℕ) (xs ys : List Told) (t : List Line) → AllTold c n t (xs ++ ys) → AllTold c n (told_onto n xs t) ys
told_last c n [] ys t h = h
told_last c n (x ∷ xs) ys t h = told_last c n xs ys (record { number = n; told = x } ∷ t) h.1

pub followed_onto : (c : Config) (n : ℕ) (xs : List Told) (t : List Line) → IsFollowed c t → AllTold c n t xs → IsFollowed c (told_onto n xs t)
followed_onto c n [] t h may = h
followed_onto c n (x ∷ xs) t h may = followed_onto c n xs (record { number = n; told = x } ∷ t) (may.0, h) may.1

-- ---- heads ----

module _ (c : Config) (few : length c.packs ≤ 4) (n me : ℕ) (t : List Line) (h : IsFollowed c t) where
  call_facts : (process : ℕ) (words : Call) (o : Option InEpoch) (v : SiteView) → SiteIn c me t v o → IsNumbered words →
      AllTold c n t (on_call (call_frame c me v.boot o) (epoch_id o) process words v.users).told → AllAt (ToldFact c n) n t (on_call (call_frame c me v.boot o) (epoch_id o) process words v.users).told
  call_facts process words None v fact low may = refused_facts c n t me v.boot process words v.users h fact.outside fact.users.always low may
  call_facts process words (Some e) v fact low may = called_facts c n t (frame_in c me v.boot e) process words v.users h fact.frame fact.users.inside.always low may

  low_words : (process : ℕ) (words : Call) (v : SiteView) → MayCall c me process words v.users → IsNumbered words
  low_words process words v k = words_low c.sites words (process_above c.sites me process words k.fits).1

  leaves_facts : (o : Option InEpoch) (v : SiteView) → SiteIn c me t v o → AllTold c n t (leaves_of me o v).told → AllAt (ToldFact c n) n t (leaves_of me o v).told
  leaves_facts None v fact may = tt
  leaves_facts (Some e) v fact may = leave_facts c n t (frame_in c me v.boot e) v.users.waiting few h fact.frame fact.users.waiting_ascends fact.users.inside.inside.calls may

  taken_here : (v : SiteView) (e : InEpoch) (told : List Told) → v.epoch ≡ Some e → SiteFact c me t v → InsideFact c (frame_in c me v.boot e) t v
  taken_here v e told here fact = subst (SiteIn c me t v) here fact

  head_facts : (v : SiteView) (e : Event) (told : List Told) → SiteFact c me t v → EventFact c t me v e → Head c me v e told → AllTold c n t told → AllAt (ToldFact c n) n t told
  head_facts v e told fact event (inl none) may = subst (AllAt (ToldFact c n) n t) (sym none) tt
  head_facts v e told fact event (inr (inl k)) may = subst (AllAt (ToldFact c n) n t) (sym k.told_is) (call_facts k.process k.words v.epoch v fact (low_words k.process k.words v (subst (EventFact c t me v) k.event_is event)) (subst (AllTold c n t) k.told_is may))
  head_facts v e told fact event (inr (inr (inl k))) may =
      let inside : InsideFact c (frame_in c me v.boot k.epoch) t v = taken_here v k.epoch told k.inside fact in
      taken_facts c n t (frame_in c me v.boot k.epoch) v told h inside.frame inside.users.inside k.taken may
  head_facts v e told fact event (inr (inr (inr left))) may = subst (AllAt (ToldFact c n) n t) (sym left) (leaves_facts v.epoch v fact (subst (AllTold c n t) left may))

  -- ---- a whole event ----

  pub step_facts : (links : Links) (v : SiteView) (e : Event) → SiteFact c me t v → EventFact c t me v e → AllTold c n t (step c me links v e).told → AllAt (ToldFact c n) n t (step c me links v e).told
  step_facts links v e fact event may = over (step_splits c me links v e) may
    where
      over : Splits c me v e (step c me links v e).told → AllTold c n t (step c me links v e).told → AllAt (ToldFact c n) n t (step c me links v e).told
      over k may =
          let all : AllTold c n t (k.first ++ k.rest) = subst (AllTold c n t) k.told_is may in
          subst (AllAt (ToldFact c n) n t) (sym k.told_is)
          (at_append (ToldFact c n) n k.first k.rest t (head_facts v e k.first fact event k.head (told_first c n k.first k.rest t all))
          (mild_facts c n k.rest (told_onto n k.first t) (followed_onto c n k.first t h (told_first c n k.first k.rest t all)) k.mild (told_last c n k.first k.rest t all)))
