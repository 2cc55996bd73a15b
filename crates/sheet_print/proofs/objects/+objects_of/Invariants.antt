use Rattle.sheet_print.proofs.objects.+objects_of.Given as goal

abbrev pub decreases-objects_of : goal.decreases-objects_of
decreases-objects_of l = l.column
