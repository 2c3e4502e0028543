use Rattle.oc_slots.proofs.HeldGives.{held_gives}
use Rattle.oc_slots.proofs.Committing.{either_gives}
use Rattle.oc_slots.proofs.Formed.{formed_holds}
use Rattle.oc_slots.proofs.Writes.{still_holds, same_map, gives_in_write}
use Rattle.oc_slots.proofs.laws.laws_of_stops.Goals as goal

pub returns : goal.returns
returns c = record {
  held = held_gives;
  beside = λ h pages d holds at bytes start room beside sound.
      (still_holds h pages d holds at bytes start room beside sound, same_map h pages d holds at bytes start room beside sound, gives_in_write h pages d holds at bytes start room beside sound);
  commit = either_gives;
  formed = formed_holds;
}
