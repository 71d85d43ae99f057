use Rattle.std.proofs.Common.{sym, arith, rules}
use Rattle.text.proofs.Spelling.{decimal_front, spell_more, spell_room}
use Rattle.text.proofs.decimal.Decimal.new.Goals as goal

pub loop-rest-init : goal.loop-rest-init
loop-rest-init c = (omega arith, omega arith, omega arith, sym (decimal_front c.args.number (omega arith)))

pub overflow_sub-from : goal.overflow_sub-from
overflow_sub-from c =
    let inv = c.loop-rest.invariant in
    spell_room c.loop-rest.rest c.loop-rest.from c.args.number c.loop-rest.digits (omega arith) (omega arith) (omega arith) (omega arith) inv.2 inv.3

pub loop-rest-preserved : goal.loop-rest-preserved
loop-rest-preserved c =
    let inv = c.loop-rest.invariant in
    let inside = spell_room c.loop-rest.rest c.loop-rest.from c.args.number c.loop-rest.digits (omega arith) (omega arith) (omega arith) (omega arith) inv.2 inv.3 in
    (omega arith, omega arith, search rules, spell_more c.loop-rest.rest c.loop-rest.from c.loop-rest.digits _ (omega arith) (omega arith) inside (omega arith) inv.3)
