mod Trimming
