-- `write_pen::put_number` meets its contract. It ends since a number of two digits or more is above the number without its last digit.
use Rattle.write_pen.proofs.+put_number.Given as goal

abbrev pub decreases-put_number : goal.decreases-put_number
decreases-put_number l = l.v
