-- What a storage site has begun to close it has begun, on the file of its grant.
use Rattle.std.proofs.Common.{◌≡◌, ℕ, List, [], ◌∷◌, Option, ◌∙◌, subst, inl, inr}
use Rattle.locus_ids.specs.declared.config.Config.{Config}
use Rattle.locus_ids.specs.declared.ids.CallId.{CallId}
use Rattle.locus_ids.specs.declared.ids.EpochId.{EpochId}
use Rattle.locus_ids.specs.declared.ids.FileId.{FileId}
use Rattle.locus_ids.specs.declared.ids.Mode.{Mode}
use Rattle.locus_ids.specs.declared.ids.Serial.{Serial}
use Rattle.locus_ids.specs.declared.ids.Stamp.{Stamp}
use Rattle.role_steps.specs.Views.{Told, Shuts}
use Rattle.the_run.specs.Worlds.{Line}
use Rattle.tree_laws.specs.Following.{IsFollowed, MayTell}
use Rattle.tree_laws.specs.Past.{ShutsIt, WasBegun, WasGranted, WasShut}
use Rattle.store_laws.proofs.Begun.{begun_one}
use Rattle.store_laws.proofs.Places.{GrantedSo, granted_once, instance_granted}

-- it was granted on this file, and begun on it
record ShutOn (trace : List Line) (s : ℕ) (e : EpochId) (i : Serial) : Type 0 where
  call : CallId
  request : ℕ
  mode : Mode
  file : FileId
  stamp : Option Stamp
  place : ℕ
  was_granted : WasGranted trace e call request i mode file stamp place
  begun : WasBegun trace s e i file

shut_on : (c : Config) (trace : List Line) → IsFollowed c trace → (s : ℕ) (e : EpochId) (i : Serial) → WasShut trace s e i → ShutOn trace s e i
shut_on c [] h s e i k = absurd k
shut_on c (x ∷ older) h s e i (inr k) = (let b : ShutOn older s e i = shut_on c older h.1 s e i k in record { call = b.call; request = b.request; mode = b.mode; file = b.file; stamp = b.stamp; place = b.place; was_granted = inr b.was_granted; begun = inr b.begun })
shut_on c (x ∷ older) h s e i (inl k) = now x.told h.0 k
  where
    now : (z : Told) → MayTell c older z → ShutsIt s e i older z → ShutOn (x ∷ older) s e i
    now (Shuts site at inst) may p = (let g : GrantedSo older at may.at.grant × (may.at.grant.inst ≡ inst) = instance_granted c older at inst may.at may.open_at.found in record {
      call = may.at.grant.call;
      request = g.0.request;
      mode = may.at.grant.mode;
      file = may.at.grant.file;
      stamp = g.0.stamp;
      place = may.at.grant.ss;
      was_granted = inr (subst (λ (j : Serial). WasGranted older e may.at.grant.call g.0.request j may.at.grant.mode may.at.grant.file g.0.stamp may.at.grant.ss) (g.1 ∙ p.serial_is) (subst (λ (y : EpochId). WasGranted older y may.at.grant.call g.0.request may.at.grant.inst may.at.grant.mode may.at.grant.file g.0.stamp may.at.grant.ss) p.epoch_is g.0.was_granted));
      begun = inr (subst (λ (j : Serial). WasBegun older s e j may.at.grant.file) p.serial_is (subst (λ (y : EpochId). WasBegun older s y inst may.at.grant.file) p.epoch_is (subst (λ (y : ℕ). WasBegun older y at inst may.at.grant.file) p.site_is may.runs.begun)));
    })
    now _ may p = absurd p

-- an instance that is being closed was begun on the file on which it was granted, wherever it was begun
pub shut_file : (c : Config) (trace : List Line) → IsFollowed c trace → (s site : ℕ) (e : EpochId) (i : Serial) (d : CallId) (request : ℕ) (m : Mode) (f g : FileId) (stamp : Option Stamp) (ss : ℕ) → WasShut trace s e i → WasGranted trace e d request i m f stamp ss → WasBegun trace site e i g → g ≡ f
shut_file c trace h s site e i d request m f g stamp ss shut granted begun = (let b : ShutOn trace s e i = shut_on c trace h s e i shut in
    (begun_one c trace h e i site s g b.file begun b.begun).1 ∙ (granted_once c trace h e b.call d b.request request i b.mode m b.file f b.stamp stamp b.place ss b.was_granted granted).file_is)
