use Rattle.writing.proofs.Cursor.+number.Given as goal

abbrev pub decreases-number : goal.decreases-number
decreases-number l = l.x
