use Rattle.ot_exec_compile.proofs.maker.Maker.+statement.Given as goal

-- each call goes one deeper
abbrev pub decreases-statement : goal.decreases-statement
decreases-statement l = l.depth

abbrev pub decreases-block : goal.decreases-block
decreases-block l = l.depth

abbrev pub decreases-decides : goal.decreases-decides
decreases-decides l = l.depth

abbrev pub decreases-within : goal.decreases-within
decreases-within l = l.depth

abbrev pub decreases-turn : goal.decreases-turn
decreases-turn l = l.depth

abbrev pub decreases-loops : goal.decreases-loops
decreases-loops l = l.depth

abbrev pub decreases-counts : goal.decreases-counts
decreases-counts l = l.depth

abbrev pub decreases-switches : goal.decreases-switches
decreases-switches l = l.depth

abbrev pub decreases-labelled : goal.decreases-labelled
decreases-labelled l = l.depth

abbrev pub decreases-construct : goal.decreases-construct
decreases-construct l = l.depth

abbrev pub decreases-region : goal.decreases-region
decreases-region l = l.depth

abbrev pub decreases-parallel : goal.decreases-parallel
decreases-parallel l = l.depth

abbrev pub decreases-task : goal.decreases-task
decreases-task l = l.depth

abbrev pub decreases-taskloop : goal.decreases-taskloop
decreases-taskloop l = l.depth

abbrev pub decreases-critical : goal.decreases-critical
decreases-critical l = l.depth

abbrev pub decreases-masked : goal.decreases-masked
decreases-masked l = l.depth

abbrev pub decreases-one_thread : goal.decreases-one_thread
decreases-one_thread l = l.depth

abbrev pub decreases-threads : goal.decreases-threads
decreases-threads l = l.depth

abbrev pub decreases-work : goal.decreases-work
decreases-work l = l.depth

abbrev pub decreases-reduced_work : goal.decreases-reduced_work
decreases-reduced_work l = l.depth

abbrev pub decreases-parts_of_work : goal.decreases-parts_of_work
decreases-parts_of_work l = l.depth

abbrev pub decreases-sections : goal.decreases-sections
decreases-sections l = l.depth

abbrev pub decreases-section : goal.decreases-section
decreases-section l = l.depth

abbrev pub decreases-turns : goal.decreases-turns
decreases-turns l = l.depth

abbrev pub decreases-single : goal.decreases-single
decreases-single l = l.depth

abbrev pub decreases-made_here : goal.decreases-made_here
decreases-made_here l = l.depth
