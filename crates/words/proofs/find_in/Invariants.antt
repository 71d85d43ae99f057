-- The invariant of `find_in`: the search of the rows that are left gives the answer.
use Rattle.std.proofs.Common.{◌≡◌, map, drop}
use Rattle.words.specs.Lookup.{line_of, seek}
use Rattle.words.proofs.find_in.Given as goal

abbrev pub invariant-loop-row : goal.invariant-loop-row
invariant-loop-row l = seek (map line_of (drop l.row-index l.rows)) l.run ≡ seek (map line_of l.rows) l.run
