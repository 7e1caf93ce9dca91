-- Which part of the room is the table of H, of H^2 and of H^3.
use Rattle.std.proofs.Common.{◌∙◌, ap, sym, take, drop}
use Rattle.gcm.specs.Gcm.{product}
use Rattle.gcm.proofs.Tables.Written.{first_in, second_in, third_in, room_below}
use Rattle.gcm.proofs.multiples.Multiples.tables.Goals as goal

pub new-requires-clause-table : goal.new-requires-clause-table
new-requires-clause-table c =
    (first_in c.self.inside.room.now _ c.self.invariant c.split_at.ensures.front).0

pub new-requires-2-clause-table : goal.new-requires-2-clause-table
new-requires-2-clause-table c =
    (second_in c.self.inside.room.now _ c.self.invariant
    (c.split_at-2.ensures.front ∙ ap (take 32) c.split_at.ensures.back)).0

pub new-requires-3-clause-table : goal.new-requires-3-clause-table
new-requires-3-clause-table c =
    (third_in c.self.inside.room.now _ c.self.invariant
    (c.split_at-2.ensures.back ∙ ap (drop 32) c.split_at.ensures.back)).0

pub returns : goal.returns
returns c =
    let room = c.self.inside.room.now in
    let one = first_in room _ c.self.invariant c.split_at.ensures.front in
    let two = second_in room _ c.self.invariant
    (c.split_at-2.ensures.front ∙ ap (take 32) c.split_at.ensures.back) in
    let three = third_in room _ c.self.invariant
    (c.split_at-2.ensures.back ∙ ap (drop 32) c.split_at.ensures.back) in
    record {
      small = rw (sym c.self.view_is) (room_below room c.self.invariant);
      one = c.new.ensures ∙ one.1 ∙ c.self.view_is;
      two = c.new-2.ensures ∙ two.1 ∙ ap (λ h. product h h) c.self.view_is;
      three = c.new-3.ensures ∙ three.1 ∙ ap (λ h. product (product h h) h) c.self.view_is;
    }
